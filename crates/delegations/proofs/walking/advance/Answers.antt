use Rattle.std.proofs.Common.{◌≡◌, cond, List, [], ◌∷◌, Option, option_map, ap, sym, ◌∙◌, subst}
use Rattle.metadata.specs.File.{Bytes}
use Rattle.delegations.specs.Delegation.{Edge, Hops}
use Rattle.delegations.specs.Search.{Shelf}
use Rattle.delegations.specs.Verdicts.{Table}
use Rattle.delegations.specs.Views.{edge_view, shelf_view, table_view}
use Rattle.delegations.specs.steps.Remains.{IsAt, IsBefore, around, all_left, left_of}
use Rattle.delegations.specs.declared.shelf.Edge.{Edge as CodeEdge}
use Rattle.delegations.proofs.Onward.{step_entered}
use Rattle.delegations.proofs.walking.advance.Goals as goal
use Rattle.delegations.proofs.walking.advance.Goals.{then-edge, else-edge}

pub enter-requires-clause-before : goal.enter-requires-clause-before
enter-requires-clause-before c =
    let V : Shelf = shelf_view c.args.shelf.now in
    let path : Bytes = c.args.query.now.path.now in
    let T : Table = table_view c.args.query.now.known.now in
    let hss : List Hops = all_left path c.args.frames.now in
    let e : Edge = edge_view c.in-Some-hop.edge in
    let later : Hops = left_of path c.in-Some.later in
    let around_is : all_left path c.if-edge.frames ≡ around e later hss = elim c.if-edge.branch [
      | then-edge w ↦ ap (λ fs. all_left path fs) (w.frames-is ∙ w.clear.ensures) ∙ ap (λ b. cond b [] (later ∷ hss)) (sym w.if-edge.true)
      | else-edge w ↦ ap (λ fs. all_left path fs) (w.frames-is ∙ w.push-else-edge.ensures) ∙ ap (λ b. cond b [] (later ∷ hss)) (sym w.if-edge.false)
    ] in
    subst (λ t. IsBefore V path c.args.query.now.moment T c.args.checks.now e t c.args.visited.now) (sym around_is)
    (step_entered V path c.args.query.now.moment T c.args.checks.now hss c.args.visited.now e later (sym c.has.ensures ∙ c.if-has.false)
    (subst (λ hs. IsAt V path c.args.query.now.moment T c.args.checks.now (hs ∷ hss) c.args.visited.now)
    (c.in-Some.ensures ∙ ap (λ (o : Option CodeEdge). option_map edge_view o ∷ later) c.in-Some-hop.is) c.requires.at))
