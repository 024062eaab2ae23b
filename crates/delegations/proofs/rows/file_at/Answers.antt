use Rattle.std.proofs.Common.{◌≡◌, ◌∙◌, Some, None, cond, sym, ap, true, false}
use Rattle.std.specs.Prelude.{option_and_then}
use Rattle.metadata.specs.FileViews.{targets_file}
use Rattle.delegations.specs.Rows.{place_before, same_place}
use Rattle.delegations.proofs.ByHalves.{found}
use Rattle.delegations.proofs.KeyOrder.{sorts_places}
use Rattle.delegations.proofs.rows.file_at.Goals as goal

pub returns-in_default : goal.returns-in_default
returns-in_default c =
    sym (found (λ r. (r.role, r.version)) (λ r. targets_file r.file) place_before same_place sorts_places c.args.rows.now c.count_before.result (c.args.role.now, c.args.version) c.requires c.count_before.ensures c.get.result c.get.ensures.lookup
    ∙ ap (option_and_then (λ r. cond (same_place (r.now.role, r.now.version) (c.args.role.now, c.args.version)) (Some (targets_file r.now.file)) None)) c.in_default.is)

pub returns-then-not-is_at : goal.returns-then-not-is_at
returns-then-not-is_at c =
    let other : same_place (c.in-Some.row.now.role, c.in-Some.row.now.version) (c.args.role.now, c.args.version) ≡ false = sym c.is_at.ensures ∙ c.if-not-is_at.true in
    sym (found (λ r. (r.role, r.version)) (λ r. targets_file r.file) place_before same_place sorts_places c.args.rows.now c.count_before.result (c.args.role.now, c.args.version) c.requires c.count_before.ensures c.get.result c.get.ensures.lookup
    ∙ (ap (option_and_then (λ r. cond (same_place (r.now.role, r.now.version) (c.args.role.now, c.args.version)) (Some (targets_file r.now.file)) None)) c.in-Some.is ∙ ap (λ t. cond t (Some (targets_file c.in-Some.row.now.file)) None) other))

pub returns : goal.returns
returns c =
    let one : same_place (c.in-Some.row.now.role, c.in-Some.row.now.version) (c.args.role.now, c.args.version) ≡ true = sym c.is_at.ensures ∙ c.if-not-is_at.false in
    sym (found (λ r. (r.role, r.version)) (λ r. targets_file r.file) place_before same_place sorts_places c.args.rows.now c.count_before.result (c.args.role.now, c.args.version) c.requires c.count_before.ensures c.get.result c.get.ensures.lookup
    ∙ (ap (option_and_then (λ r. cond (same_place (r.now.role, r.now.version) (c.args.role.now, c.args.version)) (Some (targets_file r.now.file)) None)) c.in-Some.is ∙ ap (λ t. cond t (Some (targets_file c.in-Some.row.now.file)) None) one))
