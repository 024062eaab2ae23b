use Rattle.std.proofs.Common.{◌≡◌, pos, List, [], ◌∷◌, ◌++◌, codes, ap, ◌∙◌}
use Rattle.canonical_json.specs.Json.{integer, text, array}
use Rattle.canonical_json.specs.View.{items_of}
use Rattle.drafting.specs.Roots.{ids_of}
use Rattle.drafting.proofs.Rows.{Row}
use Rattle.chain_drafting.specs.steps.Recorded.{rule_rows}
use Rattle.drafting.specs.steps.Rows.{rows_view}
use Rattle.chain_drafting.specs.steps.Said.{step_view, text_of}
use Rattle.chain_drafting.proofs.Rowed.{object_from}
use Rattle.chain_drafting.proofs.steps.step_value.Goals as goal

pub returns : goal.returns
returns c =
    let said = step_view c.args.said.now in
    let first : rows_view c.new-members.result.items ≡ [] = ap (λ (l : List Row). rows_view l) c.new-members.ensures.items in
    let all : rows_view c.push_member-3.new.members.items
    ≡ ((([] ++ rule_rows (text_of c.args.before) said) ++ (codes "name", text said.name) ∷ []) ++ (codes "pubkeys", array (items_of (ids_of said.rule.keys))) ∷ [])
    ++ (codes "threshold", integer (pos said.rule.threshold)) ∷ [] = cc (first, c.in_ok-push_rules.ensures, c.in_ok-push_member.ensures, c.in_ok-push_member-2.ensures, c.in_ok-push_member-3.ensures, c.in_ok-name.ensures, c.in_ok-ids.ensures, c.number_value-threshold.ensures) in
    c.object_value.ensures ∙ object_from c.push_member-3.new.members.items _ all
