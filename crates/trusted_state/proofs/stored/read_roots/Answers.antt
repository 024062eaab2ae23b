use Rattle.std.proofs.Common.{map, ap}
use Rattle.std.proofs.lemmas.List.{length-map, map-append}
use Rattle.metadata.specs.FileViews.{root_file}
use Rattle.trust_rules.specs.steps.Stored.{IsStoredRoot}
use Rattle.trust_rules.proofs.ItemByItem.{reading_goes, reading_fails, reading_ends}
use Rattle.trusted_state.proofs.stored.read_roots.Goals as goal

pub returns-in_default-2-clause-none : goal.returns-in_default-2-clause-none
returns-in_default-2-clause-none c =
    reading_fails IsStoredRoot (c.in-Some.row.now.0, (c.in-Some.row.now.1, c.in-Some.row.now.2.items)) (map (λ r. (r.0, (r.1, r.2.items))) c.in-Some.later.now)
    (map (λ r. (r.0, (r.1, r.2.items))) c.args.rows.now) (map (λ r. (r.0, (r.1, r.2.items))) c.rows.rest.now) (map root_file c.rows.files.items)
    (ap (map (λ r. (r.0, (r.1, r.2.items)))) c.in-Some.ensures.cases.0) (rw (c.deref.ensures.value, c.in_default-2.is) at c.in_ok-file.ensures.none) c.rows.invariant

pub rows-preserved : goal.rows-preserved
rows-preserved c =
    rw (c.in_ok-push.ensures.items, map-append)
    (reading_goes IsStoredRoot (c.in-Some.row.now.0, (c.in-Some.row.now.1, c.in-Some.row.now.2.items)) (root_file c.in-Some-2.file) (map (λ r. (r.0, (r.1, r.2.items))) c.in-Some.later.now)
    (map (λ r. (r.0, (r.1, r.2.items))) c.args.rows.now) (map (λ r. (r.0, (r.1, r.2.items))) c.rows.rest.now) (map root_file c.rows.files.items)
    (ap (map (λ r. (r.0, (r.1, r.2.items)))) c.in-Some.ensures.cases.0) (rw (c.deref.ensures.value, c.in-Some-2.is) at c.in_ok-file.ensures.some) c.rows.invariant)

pub returns-clause-some : goal.returns-clause-some
returns-clause-some c =
    reading_ends IsStoredRoot (map (λ r. (r.0, (r.1, r.2.items))) c.args.rows.now) (map (λ r. (r.0, (r.1, r.2.items))) c.rows.rest.now)
    (map root_file c.rows.files.items) (simp length-map c.in_default.ensures.cases) c.rows.invariant
