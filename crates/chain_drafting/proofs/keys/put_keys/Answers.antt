use Rattle.std.proofs.Common.{List, codes, subst}
use Rattle.canonical_json.specs.Json.{Json}
use Rattle.drafting.specs.Members.{Puts, PutsAll}
use Rattle.drafting.proofs.Results.{on_ok}
use Rattle.drafting.proofs.Rows.{Row, shown}
use Rattle.chain_drafting.specs.Layouts.{step_keys}
use Rattle.chain_drafting.specs.steps.Said.{steps_view}
use Rattle.chain_drafting.proofs.keys.put_keys.Goals as goal

pub returns : goal.returns
returns c =
    let a = shown c.args.members.now.items in
    let d = shown c.put.new.members.items in
    let table = shown c.add_keys.new.table.items in
    on_ok _ _ c.put.result c.put.ensures.puts (λ put. (
      table,
      subst (λ (l : List Row). PutsAll (step_keys (steps_view c.args.steps.now)) (shown l) table) c.new-table.ensures.items c.in_ok-add_keys.ensures,
      subst (λ (x : Json). Puts (codes "keys") x a d) c.object_value.ensures put,
    ))
