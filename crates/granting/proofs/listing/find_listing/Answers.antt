use Rattle.std.proofs.Common.{◌∙◌, Ok, Err, sym, ap, subst, arith}
use Rattle.std.proofs.lemmas.Result.{err_from_is_err_and}
use Rattle.std.specs.Prelude.{option_map}
use Rattle.metadata.specs.FileViews.{root_file, timestamp_file, snapshot_file}
use Rattle.document_parts.specs.Views.{listing_view}
use Rattle.denials.specs.Orders.{decide, holds, pass}
use Rattle.denials.specs.declared.denial.Denial.TheVariants.{NoRoot}
use Rattle.delegations.specs.Rows.{Rows}
use Rattle.delegations.specs.Search.{Shelf, shelf_of}
use Rattle.delegations.specs.Views.{found_view, shelf_view}
use Rattle.trusted_state.specs.declared.refusal.Refusal.TheVariants.{Denied}
use Rattle.trusted_state.specs.Answers.{Gives, denies, gives}
use Rattle.trust_rules.specs.Grants.{listed, searched}
use Rattle.trust_rules.specs.State.{Trusted}
use Rattle.trusted_state.specs.PartViews.{trusted_view}
use Rattle.granting.specs.steps.Permitting.{listed_view}
use Rattle.trust_rules.proofs.OrderLines.{lacking, needed}
use Rattle.trusted_state.proofs.OrderSteps.{denied_behind, denied_in, given_by}
use Rattle.trusted_state.proofs.ShelfPlaces.{live_as}
use Rattle.trusted_state.proofs.Carrying.{found_checks, found_free, no_checks}
use Rattle.granting.proofs.TargetFiles.{denied_by_search, found_by_search, over, seen}
use Rattle.granting.proofs.listing.find_listing.Goals as goal

pub returns-in_default-clause-answer : goal.returns-in_default-clause-answer
returns-in_default-clause-answer c =
    subst (λ (T : Trusted). Gives (listed T c.args.path.now c.args.now) listed_view (Err (Denied NoRoot))) c.trusted-trusted.ensures.view
    (denies (pass (holds c.is_path.ensures) (decide (lacking _ _ (ap (option_map root_file) (sym c.in_default.ensures.value))))))

pub returns-in_err-snapshot-clause-answer : goal.returns-in_err-snapshot-clause-answer
returns-in_err-snapshot-clause-answer c =
    let p = err_from_is_err_and c.from_residual.result c.from_residual.ensures.1 in
    rw (p.1, p.2) (subst (λ (T : Trusted). Gives (listed T c.args.path.now c.args.now) listed_view (Err c.in_err-snapshot.field-0.0)) c.trusted-trusted.ensures.view
    (denied_behind _ (holds c.is_path.ensures) (denied_behind _ (needed _ _ (root_file c.in-Some.root.now) (ap (option_map root_file) (sym c.in-Some.ensures.value)))
    (denied_in (live_as (root_file c.in-Some.root.now) (seen timestamp_file _ _ c.as_ref-2.ensures.value) (seen snapshot_file _ _ c.as_ref-3.ensures.value) c.in_err-snapshot.ensures.answer)))))

pub returns-in_err-found-clause-answer : goal.returns-in_err-found-clause-answer
returns-in_err-found-clause-answer c =
    let p = err_from_is_err_and c.from_residual-in_err-found.result c.from_residual-in_err-found.ensures.1 in
    rw (p.1, p.2) (subst (λ (T : Trusted). Gives (listed T c.args.path.now c.args.now) listed_view (Err c.in_err-found.field-0.0)) c.trusted-trusted.ensures.view
    (denied_by_search (trusted_view c.trusted-trusted.result.now) c.args.path.now c.args.now (root_file c.in-Some.root.now) (snapshot_file c.in_ok-snapshot.snapshot.now)
    c.is_path.ensures (ap (option_map root_file) (sym c.in-Some.ensures.value))
    (given_by (live_as (root_file c.in-Some.root.now) (seen timestamp_file _ _ c.as_ref-2.ensures.value) (seen snapshot_file _ _ c.as_ref-3.ensures.value) c.in_ok-snapshot.ensures.answer))
    (subst (λ (V : Shelf). Gives (searched (root_file c.in-Some.root.now).body V c.args.path.now c.args.now) found_view (Err c.in_err-found.field-0.0))
    (c.new-shelf.ensures.shelf ∙ ap (λ (r : Rows). shelf_of (root_file c.in-Some.root.now) (snapshot_file c.in_ok-snapshot.snapshot.now) r) c.held_rows.ensures) c.in_err-found.ensures.answer)))

pub returns-clause-answer : goal.returns-clause-answer
returns-clause-answer c =
    let root = root_file c.in-Some.root.now in
    let snap = snapshot_file c.in_ok-snapshot.snapshot.now in
    let same = c.new-shelf.ensures.shelf ∙ ap (λ (r : Rows). shelf_of root snap r) c.held_rows.ensures in
    let path = c.args.path.now in
    let now = c.args.now in
    let l = listing_view c.in_ok-found.found.listing.now in
    gives (subst (λ (T : Trusted). listed T path now (Ok (record { root = root.body; shelf = shelf_view c.new-shelf.result; listing = l }))) c.trusted-trusted.ensures.view
    (subst (λ (V : Shelf). listed (trusted_view c.trusted-trusted.result.now) path now (Ok (record { root = root.body; shelf = V; listing = l }))) (sym same)
    (found_by_search (trusted_view c.trusted-trusted.result.now) path now root snap (found_view c.in_ok-found.found)
    c.is_path.ensures (ap (option_map root_file) (sym c.in-Some.ensures.value))
    (given_by (live_as root (seen timestamp_file _ _ c.as_ref-2.ensures.value) (seen snapshot_file _ _ c.as_ref-3.ensures.value) c.in_ok-snapshot.ensures.answer))
    (given_by (subst (λ (V : Shelf). Gives (searched root.body V path now) found_view (Ok c.in_ok-found.found)) same c.in_ok-found.ensures.answer)))))

pub returns-clause-wanted : goal.returns-clause-wanted
returns-clause-wanted c few =
    let o = over c.trusted-trusted.ensures.view (ap (option_map root_file) (sym c.in-Some.ensures.value))
    (sym (seen snapshot_file _ _ c.as_ref-3.ensures.value) ∙ ap (option_map (λ f. snapshot_file f.now)) c.in_ok-snapshot.ensures.held) c.new-shelf.ensures.shelf c.held_rows.ensures in
    found_free _ _ _ (shelf_view c.new-shelf.result) _ _ _ o.root_is o.snapshot_is o.shelf_is (λ i. c.args.held.now.verdicts) c.verdicts.ensures.known (λ a b. (a, b)) few

pub returns-in_default-clause-few : goal.returns-in_default-clause-few
returns-in_default-clause-few c = no_checks _ _ _ _ _ _ _ (omega arith)

pub returns-in_err-snapshot-clause-few : goal.returns-in_err-snapshot-clause-few
returns-in_err-snapshot-clause-few c = no_checks _ _ _ _ _ _ _ (omega arith)

pub returns-in_err-found-clause-few : goal.returns-in_err-found-clause-few
returns-in_err-found-clause-few c =
    let o = over c.trusted-trusted.ensures.view (ap (option_map root_file) (sym c.in-Some.ensures.value))
    (sym (seen snapshot_file _ _ c.as_ref-3.ensures.value) ∙ ap (option_map (λ f. snapshot_file f.now)) c.in_ok-snapshot.ensures.held) c.new-shelf.ensures.shelf c.held_rows.ensures in
    found_checks c.args.held.now.held.trusted _ _ (shelf_view c.new-shelf.result) _ _ c.args.path.now c.args.now _ o.root_is o.snapshot_is o.shelf_is c.verdicts.ensures.view c.in_err-found.ensures.costs

pub returns-clause-few : goal.returns-clause-few
returns-clause-few c =
    let o = over c.trusted-trusted.ensures.view (ap (option_map root_file) (sym c.in-Some.ensures.value))
    (sym (seen snapshot_file _ _ c.as_ref-3.ensures.value) ∙ ap (option_map (λ f. snapshot_file f.now)) c.in_ok-snapshot.ensures.held) c.new-shelf.ensures.shelf c.held_rows.ensures in
    found_checks c.args.held.now.held.trusted _ _ (shelf_view c.new-shelf.result) _ _ c.args.path.now c.args.now _ o.root_is o.snapshot_is o.shelf_is c.verdicts.ensures.view c.in_ok-found.ensures.costs

pub returns-in_err-found-clause-free : goal.returns-in_err-found-clause-free
returns-in_err-found-clause-free c few =
    let o = over c.trusted-trusted.ensures.view (ap (option_map root_file) (sym c.in-Some.ensures.value))
    (sym (seen snapshot_file _ _ c.as_ref-3.ensures.value) ∙ ap (option_map (λ f. snapshot_file f.now)) c.in_ok-snapshot.ensures.held) c.new-shelf.ensures.shelf c.held_rows.ensures in
    found_free _ _ _ (shelf_view c.new-shelf.result) _ _ _ o.root_is o.snapshot_is o.shelf_is c.verdicts.ensures.view c.verdicts.ensures.known c.in_err-found.ensures.free few

pub returns-clause-free : goal.returns-clause-free
returns-clause-free c few =
    let o = over c.trusted-trusted.ensures.view (ap (option_map root_file) (sym c.in-Some.ensures.value))
    (sym (seen snapshot_file _ _ c.as_ref-3.ensures.value) ∙ ap (option_map (λ f. snapshot_file f.now)) c.in_ok-snapshot.ensures.held) c.new-shelf.ensures.shelf c.held_rows.ensures in
    found_free _ _ _ (shelf_view c.new-shelf.result) _ _ _ o.root_is o.snapshot_is o.shelf_is c.verdicts.ensures.view c.verdicts.ensures.known c.in_ok-found.ensures.free few
