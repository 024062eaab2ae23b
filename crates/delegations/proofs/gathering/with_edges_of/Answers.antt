use Rattle.std.proofs.Common.{◌≡◌, ◌++◌, ◌∷◌, Some, option_map, IfOk, Result, Ok, Err, List, map, ap, sym, subst}
use Rattle.metadata.specs.File.{Names}
use Rattle.metadata.specs.FileViews.{targets_file}
use Rattle.document_parts.specs.Views.{delegations_view}
use Rattle.delegations.specs.Delegation.{Edge}
use Rattle.delegations.specs.Search.{edge_of}
use Rattle.delegations.specs.Views.{edge_view, shelf_view}
use Rattle.delegations.specs.steps.Gathering.{AreEdges}
use Rattle.delegations.proofs.Gathered.{more_edges}
use Rattle.delegations.proofs.gathering.with_edges_of.Goals as goal

weaker : {A E : Type 0} (P Q : A → Type 0) (r : Result A E) → ((x : A) → P x → Q x) → IfOk r P → IfOk r Q
weaker P Q (Ok x) so h = so x h
weaker P Q (Err e) so h = tt

pub returns-in-Some-delegations : goal.returns-in-Some-delegations
returns-in-Some-delegations c =
    let V = shelf_view c.args.shelf.now in
    let role = c.args.role.now in
    let file = targets_file c.in-Some.file.now in
    let more = delegations_view c.in-Some-delegations.delegations in
    let es : List Edge = map edge_view c.args.edges.items in
    let has : file.body.delegations ≡ Some more = ap (option_map delegations_view) c.in-Some-delegations.is in
    weaker (λ new. map edge_view new.items ≡ es ++ map (edge_of more.keys) more.roles)
    (λ new. (left : Names) → AreEdges V (role ∷ left) es → AreEdges V left (map edge_view new.items)) c.with_edges.result
    (λ new is left a. subst (λ (fs : List Edge). AreEdges V left fs) (sym is) (more_edges V role file more left es c.in-Some.ensures.some has a)) c.with_edges.ensures
