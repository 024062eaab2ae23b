-- Denials as JSON objects. Their members are written in the order of their names.
use Rattle.std.specs.Prelude.{ℕ, List, codes}
use Rattle.serde_json.specs.Data.{Data, number, unsigned, string, object, member, no_members}

abbrev pub denied_alone : ℕ → List ℕ → Data
denied_alone n name = object (member (codes "denial") (number (unsigned n)) (member (codes "rule") (string name) no_members))

abbrev pub denied_at : ℕ → ℕ → List ℕ → Data
denied_at n index name =
    object (member (codes "denial") (number (unsigned n)) (member (codes "index") (number (unsigned index)) (member (codes "rule") (string name) no_members)))
