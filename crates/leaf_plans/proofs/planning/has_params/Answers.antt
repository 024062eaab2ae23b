use Rattle.std.proofs.Common.{◌≡◌, ◌∷◌, inl, inr, ap, sym, rules}
use Rattle.lms.specs.declared.Params.{Params}
use Rattle.keys_roles.specs.Views.{id_text}
use Rattle.leaf_plans.specs.Book.{Signer}
use Rattle.leaf_plans.specs.Views.{signer_view}
use Rattle.leaf_plans.proofs.Listed.{first_or_later, is_first, is_later}
use Rattle.leaf_plans.proofs.planning.has_params.Goals as goal

pub signers-preserved : goal.signers-preserved
signers-preserved c =
    let rest = c.signers.rest.now in
    let signer = c.in-Some.signer.now in
    let later = c.in-Some.later.now in
    let so = c.signers.invariant in
    let is : rest ≡ signer ∷ later = search rules in (
      λ s h. so.0 s (is_later signer_view rest later signer s is h),
      λ key h. elim (first_or_later signer_view rest later signer _ is (so.1 key h)) [ inl here ↦ absurd (c.if-same_params.ensures (sym (ap (λ (s : Signer). s.params) here))) | inr there ↦ there ],
    )

pub returns-then-same_params : goal.returns-then-same_params
returns-then-same_params c =
    let rest = c.signers.rest.now in
    let signer = c.in-Some.signer.now in
    let later = c.in-Some.later.now in
    let is : rest ≡ signer ∷ later = search rules in (
      id_text signer.key,
      c.signers.invariant.0 _ (is_first signer_view rest later signer _ is (ap (λ (p : Params). record { key = id_text signer.key; params = p }) (sym c.if-same_params.ensures))),
    )
