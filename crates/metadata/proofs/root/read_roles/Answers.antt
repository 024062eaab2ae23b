use Rattle.std.proofs.Common.{refl, inr}
use Rattle.std.proofs.lemmas.Result.{err_from_is_err_and}
use Rattle.canonical_json.specs.View.{view}
use Rattle.document_parts.specs.steps.Tables.{spelled_table}
use Rattle.document_parts.proofs.Ill.{ill_again}
use Rattle.metadata.proofs.RootRoles.{just_four, snapshot_rule, targets_rule, timestamp_rule}
use Rattle.metadata.proofs.root.read_roles.Goals as goal

pub returns-in_default-clause-err : goal.returns-in_default-clause-err
returns-in_default-clause-err c = inr (
  refl,
  λ r.
      let f = just_four (view c.args.roles.now) r.1.just in
      c.in_default.ensures f.root f.snapshot f.targets f.timestamp f.is,
)

pub returns-in_err-snapshot-clause-err : goal.returns-in_err-snapshot-clause-err
returns-in_err-snapshot-clause-err c =
    let p = err_from_is_err_and c.from_residual-in_err-snapshot.result c.from_residual-in_err-snapshot.ensures.1 in
    rw (p.1, p.2) (ill_again _ c.in_err-snapshot.ensures.err
    (λ r. (r.0.snapshot, snapshot_rule (view c.args.roles.now) _ _ _ _ c.requires c.in-Some.ensures (spelled_table c.args.keys.now) r.0 r.1)))

pub returns-in_err-targets-clause-err : goal.returns-in_err-targets-clause-err
returns-in_err-targets-clause-err c =
    let p = err_from_is_err_and c.from_residual-in_err-targets.result c.from_residual-in_err-targets.ensures.1 in
    rw (p.1, p.2) (ill_again _ c.in_err-targets.ensures.err
    (λ r. (r.0.targets, targets_rule (view c.args.roles.now) _ _ _ _ c.requires c.in-Some.ensures (spelled_table c.args.keys.now) r.0 r.1)))

pub returns-in_err-timestamp-clause-err : goal.returns-in_err-timestamp-clause-err
returns-in_err-timestamp-clause-err c =
    let p = err_from_is_err_and c.from_residual-in_err-timestamp.result c.from_residual-in_err-timestamp.ensures.1 in
    rw (p.1, p.2) (ill_again _ c.in_err-timestamp.ensures.err
    (λ r. (r.0.timestamp, timestamp_rule (view c.args.roles.now) _ _ _ _ c.requires c.in-Some.ensures (spelled_table c.args.keys.now) r.0 r.1)))
