use Rattle.std.proofs.Common.{option_map, rules, refl, inl, inr}
use Rattle.std.proofs.lemmas.Result.{err_from_is_err_and}
use Rattle.canonical_json.specs.View.{view}
use Rattle.document_parts.specs.Views.{profile_view}
use Rattle.document_parts.proofs.Ill.{ill_again}
use Rattle.metadata.proofs.RootParts.{head_required, faulty_root}
use Rattle.metadata.proofs.root.read_root.Goals as goal

pub returns-in_default-clause-err : goal.returns-in_default-clause-err
returns-in_default-clause-err c = inl (inr (refl, λ r. c.in_default.ensures r.0.profile r.0.version r.0.expires r.1.head))

pub returns-in_err-required-clause-err : goal.returns-in_err-required-clause-err
returns-in_err-required-clause-err c =
    let p = err_from_is_err_and c.from_residual.result c.from_residual.ensures.1 in
    rw (p.1, p.2) (inl (ill_again _ c.in_err-required.ensures.err
    (λ r. (r.0.required, head_required (view c.args.signed.now) (profile_view c.in-Some.profile) c.in-Some.version c.in-Some.expires r.0 c.requires c.in-Some.ensures r.1))))

pub returns-in_err-keyed-clause-err : goal.returns-in_err-keyed-clause-err
returns-in_err-keyed-clause-err c =
    let p = err_from_is_err_and c.from_residual-in_err-keyed.result c.from_residual-in_err-keyed.ensures.1 in
    rw (p.1, p.2) (faulty_root (view c.args.signed.now) (profile_view c.in-Some.profile) c.in-Some.version c.in-Some.expires (option_map (λ ps. ps.items) c.in_ok-required.required) _
    (λ k has. record {
      head = c.in-Some.ensures;
      consistent = c.is_true_at.ensures.0 c.if-not-is_true_at.false;
      keys = has.0;
      roles = has.1;
      required = c.in_ok-required.ensures.ok;
    })
    c.in_err-keyed.ensures.err)

pub returns-clause-ok : goal.returns-clause-ok
returns-clause-ok c = (
  record {
    head = search rules;
    consistent = c.is_true_at.ensures.0 c.if-not-is_true_at.false;
    keys = c.in_ok-keyed.ensures.ok.0.0;
    roles = c.in_ok-keyed.ensures.ok.0.1;
    required = c.in_ok-required.ensures.ok;
  },
  c.in_ok-keyed.ensures.ok.1,
)
