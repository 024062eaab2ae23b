use Rattle.std.proofs.Common.{inl, sym, subst}
use Rattle.std.proofs.lemmas.Result.{err_from_is_err_and}
use Rattle.canonical_json.specs.View.{view}
use Rattle.keys_roles.specs.Plain.{Table}
use Rattle.document_parts.specs.Bodies.{Roles}
use Rattle.document_parts.specs.Parts.{NamesAreIds}
use Rattle.document_parts.specs.steps.Tables.{spelled_table, HasKeyed}
use Rattle.metadata.specs.steps.Spelled.{spelled_roles}
use Rattle.document_parts.proofs.Ill.{ill_again}
use Rattle.document_parts.proofs.Named.{misnamed_keys, same_roles}
use Rattle.metadata.proofs.root.keyed_of.Goals as goal

pub returns-in_err-roles-clause-err : goal.returns-in_err-roles-clause-err
returns-in_err-roles-clause-err c =
    let p = err_from_is_err_and c.from_residual-in_err-roles.result c.from_residual-in_err-roles.ensures.1 in
    rw (p.1, p.2) (inl (ill_again _ c.in_err-roles.ensures.err
    (λ k. (k.0.1, same_roles (view c.args.signed.now) (spelled_table c.in_ok-keys.keys) k.0 c.requires c.in_ok-keys.ensures.ok k.1))))

pub returns-in_err-keyed-clause-err : goal.returns-in_err-keyed-clause-err
returns-in_err-keyed-clause-err c =
    let p = err_from_is_err_and c.from_residual-in_err-keyed.result c.from_residual-in_err-keyed.ensures.1 in
    rw (p.1, p.2) (misnamed_keys (view c.args.signed.now) (spelled_table c.in_ok-keys.keys, spelled_roles c.in_ok-roles.roles) _
    (c.in_ok-keys.ensures.ok, c.in_ok-roles.ensures.ok) c.in_err-keyed.ensures.err)

pub returns-clause-ok : goal.returns-clause-ok
returns-clause-ok c =
    let same = sym c.in_ok-keyed.ensures.ok.0 in (
      subst (λ (k : Table × Roles). HasKeyed (view c.args.signed.now) k) same (c.in_ok-keys.ensures.ok, c.in_ok-roles.ensures.ok),
      subst (λ (k : Table × Roles). NamesAreIds k.0) same c.in_ok-keyed.ensures.ok.1,
    )
