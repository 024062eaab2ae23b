use Rattle.std.proofs.Common.{◌≡◌, codes, subst}
use Rattle.std.proofs.lemmas.Result.{err_from_is_err_and}
use Rattle.canonical_json.specs.Json.{Json}
use Rattle.canonical_json.specs.View.{view}
use Rattle.keys_roles.specs.Plain.{Table}
use Rattle.document_parts.specs.Bodies.{AreDelegations}
use Rattle.document_parts.specs.Parts.{IsTable}
use Rattle.document_parts.specs.steps.Tables.{spelled_table}
use Rattle.document_parts.proofs.Ill.{ill_again}
use Rattle.document_parts.proofs.Once.{has-once}
use Rattle.document_parts.proofs.PartsOnce.{table-once}
use Rattle.metadata.proofs.delegations.read_delegations.Goals as goal

pub returns-in_err-roles-clause-err : goal.returns-in_err-roles-clause-err
returns-in_err-roles-clause-err c =
    let p = err_from_is_err_and c.from_residual-in_err-roles.result c.from_residual-in_err-roles.ensures.1 in
    let keys = spelled_table c.in_ok-keys.keys in
    rw (p.1, p.2) (ill_again _ c.in_err-roles.ensures.err
    (λ d.
    let same : d.0.keys ≡ keys = has-once (codes "keys") IsTable table-once (view c.args.value.now) d.0.keys keys c.requires d.1.0 (view c.in-Some.table.now, c.in-Some.ensures.found, c.in_ok-keys.ensures.ok) in
    let at = c.in-Some-member_of.ensures.only d.1.1.0 d.1.1.1 in
    let over = subst (λ (t : Table). AreDelegations t d.1.1.0 d.0.roles) same d.1.1.2 in
    (d.0.roles, subst (λ (x : Json). AreDelegations keys x d.0.roles) at over)))
