use Rattle.std.proofs.Common.{map, ap, string_bytes}
use Rattle.std.proofs.lemmas.List.{length-map, map-append}
use Rattle.metadata.specs.FileViews.{targets_file}
use Rattle.delegations.specs.Views.{row_views}
use Rattle.trust_rules.specs.steps.Stored.{IsShelved}
use Rattle.trust_rules.proofs.ItemByItem.{reading_goes, reading_fails, reading_ends}
use Rattle.trusted_state.proofs.stored.read_rows.Goals as goal

pub returns-in_default-2-clause-none : goal.returns-in_default-2-clause-none
returns-in_default-2-clause-none c =
    reading_fails IsShelved ((string_bytes c.in-Some.row.now.0, c.in-Some.row.now.1), c.in-Some.row.now.2.items)
    (map (λ r. ((string_bytes r.0, r.1), r.2.items)) c.in-Some.later.now)
    (map (λ r. ((string_bytes r.0, r.1), r.2.items)) c.args.rows.now) (map (λ r. ((string_bytes r.0, r.1), r.2.items)) c.rows.rest.now) (row_views c.rows.held.items)
    (ap (map (λ r. ((string_bytes r.0, r.1), r.2.items))) c.in-Some.ensures.cases.0) (rw (c.deref.ensures, c.deref-in-Some.ensures.value, c.in_default-2.is) at c.in_ok-new.ensures.none) c.rows.invariant

pub rows-preserved : goal.rows-preserved
rows-preserved c =
    rw (c.in_ok-push.ensures.items, map-append)
    (reading_goes IsShelved ((string_bytes c.in-Some.row.now.0, c.in-Some.row.now.1), c.in-Some.row.now.2.items)
    ((c.in-Some-2.new.role, c.in-Some-2.new.version), targets_file c.in-Some-2.new.file)
    (map (λ r. ((string_bytes r.0, r.1), r.2.items)) c.in-Some.later.now)
    (map (λ r. ((string_bytes r.0, r.1), r.2.items)) c.args.rows.now) (map (λ r. ((string_bytes r.0, r.1), r.2.items)) c.rows.rest.now) (row_views c.rows.held.items)
    (ap (map (λ r. ((string_bytes r.0, r.1), r.2.items))) c.in-Some.ensures.cases.0) (rw (c.deref.ensures, c.deref-in-Some.ensures.value, c.in-Some-2.is) at c.in_ok-new.ensures.some) c.rows.invariant)

pub returns-clause-some : goal.returns-clause-some
returns-clause-some c =
    reading_ends IsShelved (map (λ r. ((string_bytes r.0, r.1), r.2.items)) c.args.rows.now) (map (λ r. ((string_bytes r.0, r.1), r.2.items)) c.rows.rest.now)
    (row_views c.rows.held.items) (simp length-map c.in_default.ensures.cases) c.rows.invariant
