use Rattle.std.proofs.Common.{ℕ, List, [], ◌++◌, sym, subst}
use Rattle.std.proofs.lemmas.List.{append-nil}
use Rattle.canonical_json.specs.Json.{Json, object, no_members}
use Rattle.drafting.specs.Members.{PutsAll}
use Rattle.drafting.specs.Roots.{keys_of}
use Rattle.drafting.specs.steps.Rules.{keys_view}
use Rattle.drafting.proofs.Lists.{puts_none}
use Rattle.drafting.proofs.Rows.{Row, shown}
use Rattle.chain_drafting.proofs.keys.table_value.Goals as goal

abbrev Rows : Type 0
Rows = List (List ℕ × Json)

pub returns : goal.returns
returns c =
    let keys = keys_of (keys_view c.args.keys.now) in
    let table = shown c.add_rule_keys.new.table.items in
    let all = subst (λ (l : List Row). PutsAll (keys ++ []) (shown l) table) c.new-table.ensures.items (c.in_ok-add_rule_keys.ensures [] table (puts_none table)) in
    subst (λ (x : Json). PutsAll keys (object no_members) x) (sym c.object_value.ensures)
    (subst (λ (r : Rows). PutsAll r (object no_members) table) (append-nil keys) all)
