use Rattle.std.proofs.Common.{Option, Ok, Err, List, ap, is_some, refl, subst, sym}
use Rattle.std.proofs.lemmas.Result.{err_from_is_err_and}
use Rattle.std.specs.Prelude.{option_map}
use Rattle.document_parts.specs.Views.{listing_view, reference_view, root_view}
use Rattle.document_parts.specs.declared.documents.LayoutReference.{LayoutReference}
use Rattle.denials.specs.Orders.{given}
use Rattle.delegations.specs.Views.{shelf_view}
use Rattle.metadata.specs.File.{Bytes}
use Rattle.denials.proofs.DefiniteOrders.{each-definite}
use Rattle.trust_rules.specs.Grants.{AreShort, HasLongSupport, reference_allows}
use Rattle.granting.specs.steps.Permitting.{Finds, all_bytes_at, at_once, finds}
use Rattle.trust_rules.specs.Held.{bytes_at}
use Rattle.granting.proofs.LoadedFiles.{finds_behind, refused_in, stands_by, told_more}
use Rattle.trust_rules.proofs.OneJudgement.{support-definite}
use Rattle.trusted_state.proofs.OrderSteps.{given_by}
use Rattle.granting.proofs.ShortFiles.{not_refused, one_given, told_long}
use Rattle.granting.proofs.supporting.judge_layout.Goals as goal

pub returns-in_default-clause-stands : goal.returns-in_default-clause-stands
returns-in_default-clause-stands g c =
    let R = root_view c.args.at.now.root.now in
    let V = shelf_view c.args.at.now.shelf in
    let l = listing_view c.args.at.now.listing.now in
    at_once refl (λ S valid is. finds (subst (λ (o : Option LayoutReference). reference_allows S R V c.args.now l (option_map reference_view o) (Ok tt)) (sym c.in_default.is) given))

pub returns-in_err-layout-clause-stands : goal.returns-in_err-layout-clause-stands
returns-in_err-layout-clause-stands g c =
    let p = err_from_is_err_and c.from_residual.result c.from_residual.ensures.1 in
    let R = root_view c.args.at.now.root.now in
    let V = shelf_view c.args.at.now.shelf in
    let l = listing_view c.args.at.now.listing.now in
    rw (p.1) (at_once refl (λ S valid is.
    subst (λ (o : Option LayoutReference). Finds (reference_allows S R V c.args.now l (option_map reference_view o)) (λ u. u) (Err p.0)) (sym c.in-Some.is)
    (refused_in c.in_err-layout.field-0.0 p.0 p.2 (c.in_err-layout.ensures.answer S valid is))))

pub returns-in_err-links-clause-stands : goal.returns-in_err-links-clause-stands
returns-in_err-links-clause-stands g c =
    let p = err_from_is_err_and c.from_residual-in_err-links.result c.from_residual-in_err-links.ensures.1 in
    let R = root_view c.args.at.now.root.now in
    let V = shelf_view c.args.at.now.shelf in
    let l = listing_view c.args.at.now.listing.now in
    rw (p.1) (at_once refl (λ S valid is.
    subst (λ (o : Option LayoutReference). Finds (reference_allows S R V c.args.now l (option_map reference_view o)) (λ u. u) (Err p.0)) (sym c.in-Some.is)
    (finds_behind (bytes_at S c.in_ok-layout.layout.0) (given_by (c.in_ok-layout.ensures.answer S valid is))
    (refused_in c.in_err-links.field-0.0 p.0 p.2 (rw (c.deref.ensures.value) at (c.in_err-links.ensures.answer S valid is))))))

pub returns-clause-stands : goal.returns-clause-stands
returns-clause-stands g c =
    let R = root_view c.args.at.now.root.now in
    let V = shelf_view c.args.at.now.shelf in
    let l = listing_view c.args.at.now.listing.now in
    stands_by c.judge_files.result c.judge_files.result (told_more c.judge_files.result (λ t. (t, ap is_some c.in-Some.is)))
    (λ S valid is h.
    subst (λ (o : Option LayoutReference). Finds (reference_allows S R V c.args.now l (option_map reference_view o)) (λ u. u) c.judge_files.result) (sym c.in-Some.is)
    (finds_behind (bytes_at S c.in_ok-layout.layout.0) (given_by (c.in_ok-layout.ensures.answer S valid is))
    (finds_behind (all_bytes_at S c.in_ok-links.links.items) (rw (c.deref.ensures.value) at (given_by (c.in_ok-links.ensures.answer S valid is)))
    (rw (c.deref-2.ensures.value) at h))))
    c.judge_files.ensures.stands

pub returns-in_default-clause-long : goal.returns-in_default-clause-long
returns-in_default-clause-long g c S valid is long =
    let R = root_view c.args.at.now.root.now in
    let V = shelf_view c.args.at.now.shelf in
    absurd (subst (λ (o : Option LayoutReference). HasLongSupport S R V c.args.now (option_map reference_view o)) c.in_default.is long)

pub returns-in_err-layout-clause-long : goal.returns-in_err-layout-clause-long
returns-in_err-layout-clause-long g c S valid is long =
    let p = err_from_is_err_and c.from_residual.result c.from_residual.ensures.1 in
    let R = root_view c.args.at.now.root.now in
    let V = shelf_view c.args.at.now.shelf in
    let needs = subst (λ (o : Option LayoutReference). HasLongSupport S R V c.args.now (option_map reference_view o)) c.in-Some.is long in
    rw (p.1) (refl, not_refused (Unit {0}) c.in_err-layout.field-0.0 p.0 (support-definite S R V c.args.now _) needs.layout p.2 (c.in_err-layout.ensures.answer S valid is))

pub returns-in_err-links-clause-long : goal.returns-in_err-links-clause-long
returns-in_err-links-clause-long g c S valid is long =
    let p = err_from_is_err_and c.from_residual-in_err-links.result c.from_residual-in_err-links.ensures.1 in
    let R = root_view c.args.at.now.root.now in
    let V = shelf_view c.args.at.now.shelf in
    let needs = subst (λ (o : Option LayoutReference). HasLongSupport S R V c.args.now (option_map reference_view o)) c.in-Some.is long in
    rw (p.1) (refl, not_refused (Unit {0}) c.in_err-links.field-0.0 p.0 (each-definite _ _ (support-definite S R V c.args.now)) needs.links p.2 (rw (c.deref.ensures.value) at (c.in_err-links.ensures.answer S valid is)))

pub returns-clause-long : goal.returns-clause-long
returns-clause-long g c S valid is long =
    let R = root_view c.args.at.now.root.now in
    let V = shelf_view c.args.at.now.shelf in
    let needs = subst (λ (o : Option LayoutReference). HasLongSupport S R V c.args.now (option_map reference_view o)) c.in-Some.is long in
    let layout = one_given (support-definite S R V c.args.now _) needs.layout (given_by (c.in_ok-layout.ensures.answer S valid is)) in
    let links = one_given (each-definite _ _ (support-definite S R V c.args.now)) needs.links (rw (c.deref.ensures.value) at (given_by (c.in_ok-links.ensures.answer S valid is))) in
    c.judge_files.ensures.long (rw (c.deref-2.ensures.value) (told_long S is c.in_ok-layout.layout c.in_ok-links.links.items
    (λ short. needs.long (subst (λ (b : Bytes). AreShort b needs.link_bytes) (sym layout) (subst (λ (bs : List Bytes). AreShort (bytes_at S c.in_ok-layout.layout.0) bs) (sym links) short)))))
