-- What a request for a target checks in searches, after its listing.
use Rattle.std.proofs.Common.{◌≡◌, ◌∙◌, ℕ, ◌+◌, ◌-◌, ◌≤◌, arith, refl, subst, sym}
use Rattle.metadata.specs.File.{Bytes}
use Rattle.delegations.specs.Verdicts.{Table}
use Rattle.trusted_state.specs.Knowing.{ChecksFew, WantsFew}
use Rattle.trusted_state.proofs.Carrying.{no_checks}
use Rattle.trust_rules.specs.State.{Trusted}
use Rattle.granting.specs.Serving.{CountsFew, HasLayout}

-- what follows the listing checks no more where there is no layout, or where searches may meet few
pub counted_behind : (T : Trusted) (known : Table) (path : Bytes) (now old mid new : ℕ) → old ≤ mid → mid ≤ old + 512
    → ChecksFew T.root T.snapshot T.shelf known path now (mid - old) → (WantsFew T → mid ≡ old)
    → mid ≤ new → ((HasLayout T path now → ⊥) → new ≡ mid) → (WantsFew T → new ≡ mid) → CountsFew T known path now old new
counted_behind T known path now old mid new grows most few free more plain wanted = record {
  grows = omega arith;
  most = λ none. let same : new ≡ mid = plain none in omega arith;
  few = λ none. subst (λ (n : ℕ). ChecksFew T.root T.snapshot T.shelf known path now (n - old)) (sym (plain none)) few;
  free = λ wants. wanted wants ∙ free wants;
}

pub counts_nothing : (T : Trusted) (known : Table) (path : Bytes) (now old : ℕ) → CountsFew T known path now old old
counts_nothing T known path now old = record {
  grows = omega arith;
  most = λ none. omega arith;
  few = λ none. no_checks T.root T.snapshot T.shelf known path now _ (omega arith);
  free = λ wants. refl;
}
