use Rattle.std.proofs.Common.{◌≡◌, [], ◌∷◌, ◌++◌, codes, ◌∙◌}
use Rattle.canonical_json.specs.Json.{text}
use Rattle.drafting.proofs.Results.{on_ok}
use Rattle.chain_drafting.specs.Layouts.{texts}
use Rattle.drafting.specs.steps.Rows.{rows_view}
use Rattle.chain_drafting.specs.steps.Said.{reference_view}
use Rattle.chain_drafting.proofs.Rowed.{four_more}
use Rattle.chain_drafting.proofs.references.push_places.Goals as goal

pub returns : goal.returns
returns c =
    let said = reference_view c.args.said.now in
    let old = rows_view c.args.members.now.items in
    on_ok _ _ c.push_member-4.result c.push_member-4.ensures (λ last.
    let all : rows_view c.push_member-4.new.members.items
    ≡ (((old ++ (codes "links", texts said.links) ∷ []) ++ (codes "path", text said.path) ∷ []) ++ (codes "product", text said.product) ∷ []) ++ (codes "step", text said.step) ∷ []
    = cc (last, c.in_ok-push_member.ensures, c.in_ok-push_member-2.ensures, c.in_ok-push_member-3.ensures, c.in_ok-links.ensures, c.in_ok-path.ensures, c.in_ok-product.ensures, c.in_ok-step.ensures) in
    all ∙ four_more old (codes "links", texts said.links) (codes "path", text said.path) (codes "product", text said.product) (codes "step", text said.step))
