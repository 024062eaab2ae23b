use Rattle.std.proofs.Common.{true, List, Option, option_map, ◌∙◌, ap, subst, sym}
use Rattle.keys_roles.specs.Verdicts.{AreVerdicts, Verdict}
use Rattle.metadata.specs.FileViews.{targets_file}
use Rattle.document_parts.specs.Views.{delegations_view}
use Rattle.document_parts.specs.declared.documents.Delegations.{Delegations as CodeDelegations}
use Rattle.delegations.specs.Search.{Shelf, hops_of}
use Rattle.delegations.specs.Verdicts.{AreFoundOut, Table, known_at}
use Rattle.delegations.specs.Views.{shelf_view}
use Rattle.delegations.proofs.Onward.{hops_of_doc}
use Rattle.delegations.proofs.TrueVerdicts.{true_at}
use Rattle.delegations.proofs.vouching.onward.Goals as goal

pub returns-in_default-delegations-clause-none : goal.returns-in_default-delegations-clause-none
returns-in_default-delegations-clause-none c = λ g.
    let V : Shelf = shelf_view c.args.shelf.now in
    hops_of_doc V (λ d. true) c.args.edge.now.role.now (targets_file c.in-Some.file.now) c.in-Some.ensures.some
    ∙ ap (λ (o : Option CodeDelegations). hops_of (λ d. true) (option_map delegations_view o)) c.in_default-delegations.is

pub meets_edge-requires-clause-sound : goal.meets_edge-requires-clause-sound
meets_edge-requires-clause-sound c =
    let V : Shelf = shelf_view c.args.shelf.now in
    let file = targets_file c.in-Some.file.now in
    let known : AreFoundOut V.rows c.learn.new.self = c.in_ok-learn.ensures V.rows c.in-Some.ensures.there c.requires in
    subst (λ (vs : List Verdict). AreVerdicts file.signed file.entries vs) (sym (c.of_row-verdicts.ensures ∙ ap (λ (t : Table). known_at t (c.args.edge.now.role.now, c.in-Some.version)) c.rows.ensures))
    (true_at V.rows c.learn.new.self known.0 c.args.edge.now.role.now c.in-Some.version file c.in-Some.ensures.there)

pub returns-then-live-clause-some : goal.returns-then-live-clause-some
returns-then-live-clause-some c = (
  record { file = targets_file c.in-Some.file.now; there = c.in-Some.ensures.some; meets = c.meets_edge.ensures.met.0 c.if-meets_edge.true; live = c.live.ensures.0 c.if-live.true },
  ap (λ (o : Option CodeDelegations). option_map delegations_view o) c.in-Some-delegations.is,
)
