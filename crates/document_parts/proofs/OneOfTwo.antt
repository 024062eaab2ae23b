-- What the members of a delegation say of what it covers.
use Rattle.std.proofs.Common.{ℕ, List, codes}
use Rattle.canonical_json.specs.Json.{Json, HasMember}
use Rattle.path_patterns.specs.Grammar.{IsPattern, IsHashPrefix}
use Rattle.document_parts.specs.Documents.{Scope, patterns, prefixes}
use Rattle.document_parts.specs.Bodies.{NoMember, AreTextsOf, HasScope}

abbrev pub covers_by : Json → Type 0
covers_by v = (s : Scope) × HasScope v s

-- without patterns there are prefixes, and the other way round
pub without_paths : (v : Json) → NoMember v (codes "paths") → covers_by v
    → (x : Json) × HasMember v (codes "path_hash_prefixes") x × ((ps : List (List ℕ)) × AreTextsOf IsHashPrefix x ps)
without_paths v none (patterns ps, h) = absurd (none h.0.0 h.0.1)
without_paths v none (prefixes ps, h) = (h.0.0, h.0.1, (ps, h.0.2))

pub with_paths : (v x : Json) → HasMember v (codes "paths") x → covers_by v
    → NoMember v (codes "path_hash_prefixes") × ((y : Json) × HasMember v (codes "paths") y × ((ps : List (List ℕ)) × AreTextsOf IsPattern y ps))
with_paths v x there (patterns ps, h) = (h.1, (h.0.0, h.0.1, (ps, h.0.2)))
with_paths v x there (prefixes ps, h) = absurd (h.1 x there)
