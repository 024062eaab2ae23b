use Rattle.std.proofs.Common.{sym, subst}
use Rattle.std.proofs.lemmas.Result.{err_from_is_err_and}
use Rattle.std.specs.List.{AllByRecursion}
use Rattle.canonical_json.specs.View.{view}
use Rattle.keys_roles.specs.Views.{entries_view}
use Rattle.document_parts.specs.steps.Faults.{IsFaulty}
use Rattle.document_parts.specs.Parts.{NamesAreIds}
use Rattle.metadata.specs.Shape.{tables, IsBody}
use Rattle.document_parts.specs.declared.documents.Kind.{Kind}
use Rattle.document_parts.specs.declared.documents.ShapeFault.TheVariants.{WrongShape}
use Rattle.metadata.proofs.Judged.{root_faulty, timestamp_faulty, targets_faulty, layout_faulty}
use Rattle.metadata.proofs.document.read_body.Goals as goal

pub returns-in_err-read_root-in-Root-clause-err : goal.returns-in_err-read_root-in-Root-clause-err
returns-in_err-read_root-in-Root-clause-err c =
    let p = err_from_is_err_and c.from_residual.result c.from_residual.ensures.1 in
    rw (p.1, p.2)
    (subst (λ (k : Kind). IsFaulty (IsBody k (entries_view c.args.envelope.now.signatures.items) (view c.args.envelope.now.part.now)) (λ b. AllByRecursion NamesAreIds (tables b)) c.in_err-read_root-in-Root.field-0.0) (sym c.in-Root.is)
    (root_faulty (entries_view c.args.envelope.now.signatures.items) (view c.args.envelope.now.part.now) c.in_err-read_root-in-Root.field-0.0 c.in_err-read_root-in-Root.ensures.err))

pub returns-in_err-read_targets-in-Targets-clause-err : goal.returns-in_err-read_targets-in-Targets-clause-err
returns-in_err-read_targets-in-Targets-clause-err c =
    let p = err_from_is_err_and c.from_residual-in_err-read_targets-in-Targets.result c.from_residual-in_err-read_targets-in-Targets.ensures.1 in
    rw (p.1, p.2)
    (subst (λ (k : Kind). IsFaulty (IsBody k (entries_view c.args.envelope.now.signatures.items) (view c.args.envelope.now.part.now)) (λ b. AllByRecursion NamesAreIds (tables b)) c.in_err-read_targets-in-Targets.field-0.0) (sym c.in-Targets.is)
    (targets_faulty (entries_view c.args.envelope.now.signatures.items) (view c.args.envelope.now.part.now) c.in_err-read_targets-in-Targets.field-0.0 c.in_err-read_targets-in-Targets.ensures.err))

pub returns-in-None-clause-err : goal.returns-in-None-clause-err
returns-in-None-clause-err c =
    subst (λ (k : Kind). IsFaulty (IsBody k (entries_view c.args.envelope.now.signatures.items) (view c.args.envelope.now.part.now)) (λ b. AllByRecursion NamesAreIds (tables b)) WrongShape) (sym c.in-Timestamp.is)
    (timestamp_faulty (entries_view c.args.envelope.now.signatures.items) (view c.args.envelope.now.part.now) c.in-None.ensures)

pub returns-in_err-read_layout-in-Layout-clause-err : goal.returns-in_err-read_layout-in-Layout-clause-err
returns-in_err-read_layout-in-Layout-clause-err c =
    let p = err_from_is_err_and c.from_residual-in_err-read_layout-in-Layout.result c.from_residual-in_err-read_layout-in-Layout.ensures.1 in
    rw (p.1, p.2)
    (subst (λ (k : Kind). IsFaulty (IsBody k (entries_view c.args.envelope.now.signatures.items) (view c.args.envelope.now.part.now)) (λ b. AllByRecursion NamesAreIds (tables b)) c.in_err-read_layout-in-Layout.field-0.0) (sym c.in-Layout.is)
    (layout_faulty (entries_view c.args.envelope.now.signatures.items) (view c.args.envelope.now.part.now) c.in_err-read_layout-in-Layout.field-0.0 c.in_err-read_layout-in-Layout.ensures.err))
