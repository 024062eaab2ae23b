use Rattle.std.proofs.Common.{ap, arith}
use Rattle.std.specs.Prelude.{◌≤◌}
use Rattle.std.proofs.lemmas.List.{length-map}
use Rattle.limits.specs.Limits.{blob_limit}
use Rattle.state_parts.specs.Views.{length_views}
use Rattle.trust_rules.proofs.RisingRows.{all_fails, all_goes, all_ends}
use Rattle.state_parts.proofs.loading.each_is_short.Goals as goal

pub returns-then-length-gt-BLOB_LIMIT : goal.returns-then-length-gt-BLOB_LIMIT
returns-then-length-gt-BLOB_LIMIT c =
    all_fails (λ b. b.1 ≤ blob_limit) (c.in-Some.length.now.digest.0, c.in-Some.length.now.length) (length_views c.in-Some.later.now) (length_views c.lengths.rest.now)
    (length_views c.args.lengths.now) (ap length_views c.in-Some.ensures.cases.0) (λ b. omega arith) c.lengths.invariant

pub lengths-preserved : goal.lengths-preserved
lengths-preserved c =
    all_goes (λ b. b.1 ≤ blob_limit) (c.in-Some.length.now.digest.0, c.in-Some.length.now.length) (length_views c.in-Some.later.now) (length_views c.lengths.rest.now)
    (length_views c.args.lengths.now) (ap length_views c.in-Some.ensures.cases.0) (omega arith) c.lengths.invariant

pub returns : goal.returns
returns c =
    all_ends (λ b. b.1 ≤ blob_limit) (length_views c.lengths.rest.now) (length_views c.args.lengths.now)
    (simp length-map c.in_default.ensures.cases) c.lengths.invariant
