use Rattle.std.proofs.Common.{inl, inr, subst, ◌∙◌}
use Rattle.std.specs.Ordering.{nat_cmp}
use Rattle.std.specs.Cmp.Lexicographic.{slice_cmp}
use Rattle.sql_tables.specs.Loading.{AreGathered}
use Rattle.table_rows.specs.Tables.{row_cmp}
use Rattle.table_rows.specs.steps.Loading.{FitsFirst, FitsLength, FitsRoot, FitsShelf, IsFirstRow, IsGathered, IsLengthRow, IsRootRow, IsShelfRow, document_shows, length_shows, mixed, root_shows}
use Rattle.table_rows.proofs.ItemLemmas.{as_shown, crossed_by, one_read, told_from}
use Rattle.table_rows.proofs.loading.rows_of.Goals as goal
use Rattle.table_rows.proofs.loading.rows_of.Goals.{else-not-versions-via-then-not-versions+else-not-versions-2, else-not-versions-via-else-not-versions, then-versions, else-versions}

pub returns-then-not-versions-2-clause-damaged : goal.returns-then-not-versions-2-clause-damaged
returns-then-not-versions-2-clause-damaged c a taken is sorted =
    let r = taken.version.first.other c.if-not-versions.true in
    let s = taken.version.second.other c.if-not-versions-2.true in
    mixed r.0 s.0 r.1 r.2 s.1 s.2

pub returns-in_err-one_of-clause-damaged : goal.returns-in_err-one_of-clause-damaged
returns-in_err-one_of-clause-damaged c a taken is sorted =
    let told = told_from a.version c.args.taken.versions.is_begun c.args.taken.versions.is_first c.args.taken.versions.is_second c.if-versions.is_first taken.version
    (elim c.else-not-versions.branch [
      | else-not-versions-via-then-not-versions+else-not-versions-2 w ↦ inr w.if-not-versions-2.false
      | else-not-versions-via-else-not-versions w ↦ inl w.if-not-versions.false
    ])
    (elim c.if-versions.branch [
      | then-versions w ↦ inl (w.if-versions.true, w.is_first-is)
      | else-versions w ↦ inr (w.if-versions.false, w.is_first-is ∙ w.if-versions.false)
    ]) in
    crossed_by c.if-versions.is_first a c.in-Some.first_roots c.in-Some-roots.roots
    (subst (IsGathered nat_cmp IsFirstRow FitsFirst root_shows a.root) c.in-Some.is taken.root)
    (subst (IsGathered nat_cmp IsRootRow FitsRoot root_shows a.root2) c.in-Some-roots.is taken.root2)
    told c.in_err-one_of.ensures.some.1

pub returns-clause-read : goal.returns-clause-read
returns-clause-read c a taken = record {
  root = one_read c.if-versions.is_first a c.in-Some.first_roots c.in-Some-roots.roots c.in_ok-one_of.field-0
      (subst (IsGathered nat_cmp IsFirstRow FitsFirst root_shows a.root) c.in-Some.is taken.root)
      (subst (IsGathered nat_cmp IsRootRow FitsRoot root_shows a.root2) c.in-Some-roots.is taken.root2)
      c.in_ok-one_of.ensures.roots c.in_ok-one_of.ensures.none;
  current = taken.current.whole c.if-current.false;
  shelf = subst (IsGathered row_cmp IsShelfRow FitsShelf document_shows a.shelf) c.in-Some-shelf.is taken.shelf;
  blob = subst (AreGathered (slice_cmp nat_cmp) IsLengthRow FitsLength a.blob) (as_shown c.in-Some-blobs.blobs.items) (subst (IsGathered (slice_cmp nat_cmp) IsLengthRow FitsLength length_shows a.blob) c.in-Some-blobs.is taken.blob);
}
