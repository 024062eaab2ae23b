use Rattle.std.proofs.Common.{◌≡◌, pos, List, [], ◌∷◌, ◌++◌, codes, ap, ◌∙◌}
use Rattle.canonical_json.specs.Json.{integer}
use Rattle.drafting.proofs.Rows.{Row}
use Rattle.chain_drafting.specs.steps.Recorded.{owner_rows, place_rows}
use Rattle.drafting.specs.steps.Rows.{rows_view}
use Rattle.chain_drafting.specs.steps.Said.{reference_view}
use Rattle.chain_drafting.proofs.Rowed.{object_from}
use Rattle.chain_drafting.proofs.references.reference_value.Goals as goal

pub returns : goal.returns
returns c =
    let said = reference_view c.args.said.now in
    let owners = c.in_ok-push_owners.ensures in
    let first : rows_view c.new-members.result.items ≡ [] = ap (λ (l : List Row). rows_view l) c.new-members.ensures.items in
    let all : rows_view c.push_member.new.members.items ≡ (([] ++ owner_rows owners.0 said) ++ place_rows said) ++ (codes "threshold", integer (pos said.owners.threshold)) ∷ [] = cc (first, owners.2, c.in_ok-push_places.ensures, c.in_ok-push_member.ensures, c.number_value-threshold.ensures) in
    (owners.0, owners.1, c.object_value.ensures ∙ object_from c.push_member.new.members.items _ all)
