use Rattle.std.proofs.Common.{◌≡◌, [], ◌∷◌, ◌++◌, codes, ◌∙◌}
use Rattle.chain_drafting.specs.Layouts.{rule_list, said_or, usual_materials, usual_products}
use Rattle.drafting.specs.steps.Rows.{rows_view}
use Rattle.chain_drafting.specs.steps.Said.{step_view, text_of}
use Rattle.chain_drafting.proofs.Rowed.{two_more}
use Rattle.chain_drafting.proofs.steps.push_rules.Goals as goal

pub returns : goal.returns
returns c =
    let said = step_view c.args.said.now in
    let before = text_of c.args.before in
    let old = rows_view c.args.members.now.items in
    let materials = rule_list (said_or said.material_rules (usual_materials before)) in
    let products = rule_list (said_or said.product_rules (usual_products before said.products)) in
    let all : rows_view c.push_member-2.new.members.items ≡ (old ++ (codes "expected_materials", materials) ∷ []) ++ (codes "expected_products", products) ∷ []
    = cc (c.in_ok-push_member.ensures, c.in_ok-push_member-2.ensures, c.in_ok-rules.ensures, c.in_ok-rules-2.ensures) in
    all ∙ two_more old (codes "expected_materials", materials) (codes "expected_products", products)
