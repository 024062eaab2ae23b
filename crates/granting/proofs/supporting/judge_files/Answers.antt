use Rattle.std.proofs.Common.{List, Ok, refl, sym, subst}
use Rattle.std.proofs.lemmas.Result.{err_from_is_err_and}
use Rattle.keys_roles.specs.Views.{rule_view, table_view}
use Rattle.metadata.specs.FileViews.{layout_file}
use Rattle.metadata.specs.declared.file.File.{File}
use Rattle.document_parts.specs.declared.links.Link.{Link}
use Rattle.denials.specs.Orders.{Order, decide, fails, holds}
use Rattle.layouts.specs.Faults.{IsDeniedBy}
use Rattle.layouts.specs.Layouts.{layout_holds}
use Rattle.layouts.specs.Views.{files_view}
use Rattle.granting.specs.steps.Permitting.{at_once, by_bytes, denies, finds}
use Rattle.granting.proofs.LoadedFiles.{finds_behind, finds_in, found_by, layout_finds, layout_told, reads_none, reads_then, still_stands, told_err}
use Rattle.granting.proofs.ShortFiles.{are_short, not_short}
use Rattle.granting.proofs.supporting.judge_files.Goals as goal

pub returns-then-not-are_short-clause-stands : goal.returns-then-not-are_short-clause-stands
returns-then-not-are_short-clause-stands g c =
    at_once refl (λ S valid is. denies (decide (fails (not_short S is c.args.files.0 c.args.files.1.now (sym c.if-not-are_short.ensures)))))

pub returns-then-not-are_short-clause-reads : goal.returns-then-not-are_short-clause-reads
returns-then-not-are_short-clause-reads g c = reads_none _

pub returns-in_err-layout-clause-stands : goal.returns-in_err-layout-clause-stands
returns-in_err-layout-clause-stands g c =
    let p = err_from_is_err_and c.from_residual.result c.from_residual.ensures.1 in
    rw (p.1, p.2) (by_bytes c.in_err-layout.ensures.told (λ honest S stands.
    finds_behind tt (holds (are_short S stands.held c.args.files.0 c.args.files.1.now (sym c.if-not-are_short.ensures)))
    (finds_in (c.in_err-layout.ensures.finds honest _ S stands c.requires.layout))))

pub returns-in_err-links-clause-stands : goal.returns-in_err-links-clause-stands
returns-in_err-links-clause-stands g c =
    let p = err_from_is_err_and c.from_residual-in_err-links.result c.from_residual-in_err-links.ensures.1 in
    rw (p.1, p.2) (by_bytes (told_err c.in_err-links.field-0.0 (λ h. h) (c.in_err-links.ensures.told c.in_ok-layout.ensures.told)) (λ honest S stands.
    let before = c.read_links.ensures.reads.was honest in
    finds_behind tt (holds (are_short S stands.held c.args.files.0 c.args.files.1.now (sym c.if-not-are_short.ensures)))
    (finds_behind (layout_file c.in_ok-layout.layout) (found_by (c.in_ok-layout.ensures.finds before _ S stands c.requires.layout))
    (finds_in (c.in_err-links.ensures.finds honest _ S (still_stands (c.read_layout.ensures.reads.stays before) stands) c.requires.links)))))

pub returns-in_err-check_layout-clause-stands : goal.returns-in_err-check_layout-clause-stands
returns-in_err-check_layout-clause-stands g c =
    let p = err_from_is_err_and c.from_residual-in_err-check_layout.result c.from_residual-in_err-check_layout.ensures.1 in
    let r = c.args.reference.now in
    let holding : List (File Link) → Order (Unit {0}) = λ ls. layout_holds (layout_file c.in_ok-layout.layout) (rule_view r.owners) (table_view r.keys) (files_view ls) r.step r.product c.args.listing.now.digest.0 c.args.now in
    rw (p.1) (by_bytes (layout_told c.in_err-check_layout.field-0.0 _ p.2 (c.in_ok-links.ensures.told c.in_ok-layout.ensures.told)) (λ honest S stands.
    let before = c.read_links.ensures.reads.was honest in
    finds_behind tt (holds (are_short S stands.held c.args.files.0 c.args.files.1.now (sym c.if-not-are_short.ensures)))
    (finds_behind (layout_file c.in_ok-layout.layout) (found_by (c.in_ok-layout.ensures.finds before _ S stands c.requires.layout))
    (finds_behind (files_view c.in_ok-links.links.items) (found_by (c.in_ok-links.ensures.finds honest _ S (still_stands (c.read_layout.ensures.reads.stays before) stands) c.requires.links))
    (layout_finds c.in_err-check_layout.field-0.0 _ (subst (λ ls. IsDeniedBy (holding ls) c.in_err-check_layout.field-0.0) c.deref.ensures.value c.in_err-check_layout.ensures) p.2)))))

pub returns-clause-stands : goal.returns-clause-stands
returns-clause-stands g c =
    let r = c.args.reference.now in
    let holding : List (File Link) → Order (Unit {0}) = λ ls. layout_holds (layout_file c.in_ok-layout.layout) (rule_view r.owners) (table_view r.keys) (files_view ls) r.step r.product c.args.listing.now.digest.0 c.args.now in
    by_bytes (c.in_ok-links.ensures.told c.in_ok-layout.ensures.told) (λ honest S stands.
    let before = c.read_links.ensures.reads.was honest in
    finds_behind tt (holds (are_short S stands.held c.args.files.0 c.args.files.1.now (sym c.if-not-are_short.ensures)))
    (finds_behind (layout_file c.in_ok-layout.layout) (found_by (c.in_ok-layout.ensures.finds before _ S stands c.requires.layout))
    (finds_behind (files_view c.in_ok-links.links.items) (found_by (c.in_ok-links.ensures.finds honest _ S (still_stands (c.read_layout.ensures.reads.stays before) stands) c.requires.links))
    (finds (subst (λ ls. holding ls (Ok tt)) c.deref.ensures.value c.in_ok-check_layout.ensures)))))

pub returns-in_err-links-clause-reads : goal.returns-in_err-links-clause-reads
returns-in_err-links-clause-reads g c = reads_then g.met.B.Blobs.becomes_on _ _ _ c.read_layout.ensures.reads c.read_links.ensures.reads

pub returns-in_err-check_layout-clause-reads : goal.returns-in_err-check_layout-clause-reads
returns-in_err-check_layout-clause-reads g c = reads_then g.met.B.Blobs.becomes_on _ _ _ c.read_layout.ensures.reads c.read_links.ensures.reads

pub returns-clause-reads : goal.returns-clause-reads
returns-clause-reads g c = reads_then g.met.B.Blobs.becomes_on _ _ _ c.read_layout.ensures.reads c.read_links.ensures.reads
