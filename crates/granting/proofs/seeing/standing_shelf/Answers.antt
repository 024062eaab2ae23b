use Rattle.std.proofs.Common.{◌∙◌, Ok, Err, sym, ap, subst}
use Rattle.std.proofs.lemmas.Result.{err_from_is_err_and}
use Rattle.std.specs.Prelude.{option_map}
use Rattle.metadata.specs.FileViews.{root_file, timestamp_file, snapshot_file}
use Rattle.denials.specs.Orders.{decide, given, pass}
use Rattle.denials.specs.declared.denial.Denial.TheVariants.{NoRoot}
use Rattle.delegations.specs.Rows.{Rows}
use Rattle.delegations.specs.Search.{Shelf, shelf_of}
use Rattle.delegations.specs.Views.{shelf_view}
use Rattle.trusted_state.specs.declared.refusal.Refusal.TheVariants.{Denied}
use Rattle.trusted_state.specs.Answers.{Gives, denies, gives}
use Rattle.trust_rules.specs.State.{Trusted}
use Rattle.trusted_state.specs.PartViews.{trusted_view}
use Rattle.granting.specs.Seeing.{standing}
use Rattle.trust_rules.proofs.OrderLines.{lacking, needed}
use Rattle.trusted_state.proofs.OrderSteps.{denied_behind, denied_in, given_by}
use Rattle.trusted_state.proofs.ShelfPlaces.{live_as}
use Rattle.granting.proofs.TargetFiles.{seen}
use Rattle.granting.proofs.seeing.standing_shelf.Goals as goal

pub returns-in_default-clause-shelf : goal.returns-in_default-clause-shelf
returns-in_default-clause-shelf c =
    subst (λ (T : Trusted). Gives (standing T c.args.now) shelf_view (Err (Denied NoRoot))) c.trusted-trusted.ensures.view
    (denies (decide (lacking _ _ (ap (option_map root_file) (sym c.in_default.ensures.value)))))

pub returns-in_err-snapshot-clause-shelf : goal.returns-in_err-snapshot-clause-shelf
returns-in_err-snapshot-clause-shelf c =
    let p = err_from_is_err_and c.from_residual.result c.from_residual.ensures.1 in
    rw (p.1, p.2) (subst (λ (T : Trusted). Gives (standing T c.args.now) shelf_view (Err c.in_err-snapshot.field-0.0)) c.trusted-trusted.ensures.view
    (denied_behind _ (needed _ _ (root_file c.in-Some.root.now) (ap (option_map root_file) (sym c.in-Some.ensures.value)))
    (denied_in (live_as (root_file c.in-Some.root.now) (seen timestamp_file _ _ c.as_ref-2.ensures.value) (seen snapshot_file _ _ c.as_ref-3.ensures.value) c.in_err-snapshot.ensures.answer))))

pub returns-clause-shelf : goal.returns-clause-shelf
returns-clause-shelf c =
    let root = root_file c.in-Some.root.now in
    let snap = snapshot_file c.in_ok-snapshot.snapshot.now in
    let same = c.new.ensures.shelf ∙ ap (λ (r : Rows). shelf_of root snap r) c.held_rows.ensures in
    gives (subst (λ (T : Trusted). standing T c.args.now (Ok (shelf_view c.new.result))) c.trusted-trusted.ensures.view
    (subst (λ (V : Shelf). standing (trusted_view c.trusted-trusted.result.now) c.args.now (Ok V)) (sym same)
    (pass (needed _ _ root (ap (option_map root_file) (sym c.in-Some.ensures.value)))
    (pass (given_by (live_as root (seen timestamp_file _ _ c.as_ref-2.ensures.value) (seen snapshot_file _ _ c.as_ref-3.ensures.value) c.in_ok-snapshot.ensures.answer)) given))))
