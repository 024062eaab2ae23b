use Rattle.std.proofs.Common.{◌≡◌, ◌++◌, List, [], ◌∷◌, map, ap, sym, subst, ◌∙◌}
use Rattle.metadata.specs.File.{Name, Names}
use Rattle.document_parts.specs.Views.{meta_view}
use Rattle.document_parts.specs.declared.documents.Meta.{Meta}
use Rattle.delegations.specs.declared.shelf.Edge.{Edge as CodeEdge}
use Rattle.delegations.specs.Delegation.{Edge}
use Rattle.delegations.specs.Views.{edge_view, shelf_view}
use Rattle.delegations.specs.steps.Gathering.{AreEdges}
use Rattle.delegations.proofs.Gathered.{first_edge, listed_names}
use Rattle.delegations.proofs.gathering.all_edges.Goals as goal

pub roles-init : goal.roles-init
roles-init c =
    let V = shelf_view c.args.shelf.now in
    let names : map (λ e. e.0) V.listing ≡ map (λ e. e.0) c.as_slice-rest.result.now = listed_names meta_view c.args.shelf.now.snapshot.now.meta.items ∙ sym (ap (λ (es : List (Name × Meta)). map (λ e. e.0) es) c.as_slice-rest.ensures.value) in
    let made : List CodeEdge = c.new-edges.result.items ++ c.top.result ∷ [] in
    let pushed : c.push.new.self.items ≡ made = c.in_ok-push.ensures.items in
    let alone : made ≡ c.top.result ∷ [] = ap (λ (es : List CodeEdge). es ++ c.top.result ∷ []) c.new-edges.ensures.items in
    let items : c.push.new.self.items ≡ c.top.result ∷ [] = pushed ∙ alone in
    let viewed : map edge_view c.push.new.self.items ≡ edge_view c.top.result ∷ [] = ap (λ (es : List CodeEdge). map edge_view es) items in
    let one : map edge_view c.push.new.self.items ≡ V.top ∷ [] = viewed ∙ ap (λ (e : Edge). e ∷ []) c.top.ensures in
    subst (λ (es : List Edge). AreEdges V (map (λ e. e.0) c.as_slice-rest.result.now) es) (sym one) (first_edge V (map (λ e. e.0) c.as_slice-rest.result.now) names)

pub roles-preserved : goal.roles-preserved
roles-preserved c =
    let V = shelf_view c.args.shelf.now in
    let left : Names = map (λ e. e.0) c.in-Some.later.now in
    let before : AreEdges V (c.as_str.result.now ∷ left) (map edge_view c.roles.edges.items) =
    subst (λ (ns : Names). AreEdges V ns (map edge_view c.roles.edges.items)) (ap (λ (es : List (Name × Meta)). map (λ e. e.0) es) c.in-Some.ensures.cases.0 ∙ ap (λ (n : Name). n ∷ left) (sym c.as_str.ensures.value)) c.roles.invariant in
    c.in_ok-edges.ensures left before
