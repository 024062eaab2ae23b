use Rattle.std.proofs.Common.{refl, inl, inr, sym, subst, List}
use Rattle.std.proofs.lemmas.Result.{err_from_is_err_and}
use Rattle.canonical_json.specs.View.{view}
use Rattle.keys_roles.specs.Plain.{Table}
use Rattle.keys_roles.specs.Views.{table_view}
use Rattle.document_parts.specs.Bodies.{IsLayout, HasNoInspections}
use Rattle.document_parts.specs.Documents as plain
use Rattle.document_parts.specs.Parts.{NamesAreIds}
use Rattle.document_parts.specs.steps.Tables.{spelled_table}
use Rattle.layout_files.specs.steps.Spelled.{spelled_steps}
use Rattle.document_parts.proofs.Ill.{ill_again}
use Rattle.layout_files.proofs.LayoutsNamed.{misnamed_layout, same_steps, steps_over}
use Rattle.layout_files.proofs.layout.read_layout.Goals as goal

pub returns-in_default-clause-err : goal.returns-in_default-clause-err
returns-in_default-clause-err c = inl (inr (refl, λ l. c.in_default.ensures l.0.expires l.1.expires))

pub returns-in_err-steps-clause-err : goal.returns-in_err-steps-clause-err
returns-in_err-steps-clause-err c =
    let p = err_from_is_err_and c.from_residual-in_err-steps.result c.from_residual-in_err-steps.ensures.1 in
    rw (p.1, p.2) (inl (ill_again _ c.in_err-steps.ensures.err
    (λ l. (l.0.steps, same_steps (view c.args.signed.now) (spelled_table c.in_ok-keys.keys) l.0 c.requires c.in_ok-keys.ensures.ok l.1))))

pub named-requires : goal.named-requires
named-requires c = steps_over (view c.args.signed.now) (spelled_table c.in_ok-keys.keys) (spelled_steps c.in_ok-steps.steps.items) c.in_ok-steps.ensures.ok

pub returns-in_err-keyed-clause-err : goal.returns-in_err-keyed-clause-err
returns-in_err-keyed-clause-err c =
    let inspect : HasNoInspections (view c.args.signed.now) = c.has_no_inspections.ensures.0 c.if-not-has_no_inspections.false in
    let p = err_from_is_err_and c.from_residual-in_err-keyed.result c.from_residual-in_err-keyed.ensures.1 in
    rw (p.1, p.2) (misnamed_layout (view c.args.signed.now)
    record { expires = c.in-Some.expires; keys = spelled_table c.in_ok-keys.keys; steps = spelled_steps c.in_ok-steps.steps.items } _
    record { expires = c.in-Some.ensures; inspect = inspect; keys = c.in_ok-keys.ensures.ok; steps = c.in_ok-steps.ensures.ok } c.in_err-keyed.ensures.err)

pub returns-clause-ok : goal.returns-clause-ok
returns-clause-ok c =
    let inspect : HasNoInspections (view c.args.signed.now) = c.has_no_inspections.ensures.0 c.if-not-has_no_inspections.false in
    let is : IsLayout (view c.args.signed.now) record { expires = c.in-Some.expires; keys = spelled_table c.in_ok-keys.keys; steps = spelled_steps c.in_ok-steps.steps.items } =
    record { expires = c.in-Some.ensures; inspect = inspect; keys = c.in_ok-keys.ensures.ok; steps = c.in_ok-steps.ensures.ok } in
    let with_keys = subst (λ (k : Table). IsLayout (view c.args.signed.now) record { expires = c.in-Some.expires; keys = k; steps = spelled_steps c.in_ok-steps.steps.items }) (sym c.in_ok-keyed.ensures.keys.0) is in
    let with_steps = subst (λ (ss : List plain.Step). IsLayout (view c.args.signed.now) record { expires = c.in-Some.expires; keys = table_view c.in_ok-keyed.keyed.keys; steps = ss }) (sym c.in_ok-keyed.ensures.steps) with_keys in
    (with_steps, subst NamesAreIds (sym c.in_ok-keyed.ensures.keys.0) c.in_ok-keyed.ensures.keys.1)
