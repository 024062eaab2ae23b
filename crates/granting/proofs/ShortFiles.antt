-- The lengths of the files that a layout needs, and requests where one of them is too long.
use Rattle.std.proofs.Common.{◌≡◌, ◌∙◌, ℕ, ◌≤◌, ◌&&◌, Bool, true, false, List, [], ◌∷◌, length, Option, Some, None, Ok, Err, refl, sym, ap, subst}
use Rattle.limits.specs.Limits.{file_limit}
use Rattle.std.proofs.lemmas.Bool.{leb-true, le-leb, true≢false}
use Rattle.std.specs.List.{AllByRecursion, list_all}
use Rattle.std.specs.Prelude.{option_map, unwrap_or}
use Rattle.metadata.specs.File.{Bytes}
use Rattle.denials.specs.Orders as orders
use Rattle.denials.specs.Orders.{Judged, Order}
use Rattle.denials.specs.Views.{denial_view}
use Rattle.path_patterns.specs.declared.Digest.{Digest}
use Rattle.denials.proofs.DefiniteOrders.{Definite}
use Rattle.trusted_state.specs.Answers.{Gives, denies}
use Rattle.trust_rules.specs.Held.{Held, held_of, length_at, bytes_at}
use Rattle.granting.specs.Serving.{IsShapeDenial}
use Rattle.trust_rules.specs.State.{State, blob_at}
use Rattle.trust_rules.specs.Grants.{AreShort}
use Rattle.granting.specs.steps.Permitting.{IsRefusedSo, all_bytes_at, is_short_in}
use Rattle.trusted_state.specs.declared.refusal.Refusal.{Refusal}
use Rattle.trusted_state.specs.declared.refusal.Refusal.TheVariants as refusals
use Rattle.granting.specs.declared.serving.GetFault.{GetFault}
use Rattle.granting.specs.declared.serving.GetFault.TheVariants.{Denied, Load, OutOfMemory}
use Rattle.trust_rules.proofs.HeldStates.{same_length}

-- a held length is that of the state's bytes
held_length : {H : Held} (S : State) (digest : Bytes) → held_of S ≡ H → unwrap_or (length_at H.blobs digest) 0 ≡ length (bytes_at S digest)
held_length S digest is =
    ap (λ (K : Held). unwrap_or (length_at K.blobs digest) 0) (sym is) ∙ (ap (λ (o : Option ℕ). unwrap_or o 0) (same_length S.blobs digest) ∙ at (blob_at S.blobs digest))
  where
    at : (o : Option Bytes) → unwrap_or (option_map length o) 0 ≡ length (unwrap_or o [])
    at (Some b) = refl
    at None = refl

module _ {H : Held} (S : State) (is : held_of S ≡ H) where
  each_short : (ds : List Digest) → list_all (is_short_in H.blobs) ds ≡ true → AllByRecursion (λ b. length b ≤ file_limit) (all_bytes_at S ds)
  each_short [] e = tt
  each_short (d ∷ ds) e = at (is_short_in H.blobs d) refl e (each_short ds)
    where
      at : (t : Bool) → is_short_in H.blobs d ≡ t → (t && list_all (is_short_in H.blobs) ds) ≡ true
          → (list_all (is_short_in H.blobs) ds ≡ true → AllByRecursion (λ b. length b ≤ file_limit) (all_bytes_at S ds))
          → AllByRecursion (λ b. length b ≤ file_limit) (all_bytes_at S (d ∷ ds))
      at true short e later = (subst (λ (n : ℕ). n ≤ file_limit) (held_length S d.0 is) (leb-true _ _ short), later e)
      at false long e later = absurd (true≢false (sym e))

  short_each : (ds : List Digest) → AllByRecursion (λ b. length b ≤ file_limit) (all_bytes_at S ds) → list_all (is_short_in H.blobs) ds ≡ true
  short_each [] all = refl
  short_each (d ∷ ds) all = rw (le-leb _ _ (subst (λ (n : ℕ). n ≤ file_limit) (sym (held_length S d.0 is)) all.0), short_each ds all.1) refl

  -- what the held lengths say of a layout and its links
  pub are_short : (d : Digest) (ds : List Digest) → list_all (is_short_in H.blobs) (d ∷ ds) ≡ true → AreShort (bytes_at S d.0) (all_bytes_at S ds)
  are_short d ds e = each_short (d ∷ ds) e

  pub not_short : (d : Digest) (ds : List Digest) → list_all (is_short_in H.blobs) (d ∷ ds) ≡ false → AreShort (bytes_at S d.0) (all_bytes_at S ds) → ⊥
  not_short d ds e all = true≢false (sym (short_each (d ∷ ds) all) ∙ e)

  pub told_long : (d : Digest) (ds : List Digest) → (AreShort (bytes_at S d.0) (all_bytes_at S ds) → ⊥) → list_all (is_short_in H.blobs) (d ∷ ds) ≡ false
  told_long d ds long = at (list_all (is_short_in H.blobs) (d ∷ ds)) refl
    where
      at : (t : Bool) → list_all (is_short_in H.blobs) (d ∷ ds) ≡ t → t ≡ false
      at true e = absurd (long (are_short d ds e))
      at false e = refl

-- an order that gives a value gives no other, and is not denied
pub one_given : {A : Type 0} {m : Order A} {a b : A} → Definite m → m (Ok a) → m (Ok b) → a ≡ b
one_given {A = A} {a = a} {b = b} one h k = let same : ◌≡◌ {A = Judged A} (Ok a) (Ok b) = one _ _ h k in cc

pub not_refused : (B : Type 0) {A X : Type 0} {m : Order A} {view : X → A} {a : A} (r : Refusal) (f : GetFault) → Definite m → m (Ok a) → IsRefusedSo r f → Gives m view (Err r) → IsShapeDenial {A = B} (Err f)
not_refused B {A = A} {a = a} (refusals.Denied d) f one h is (denies g) = let same : ◌≡◌ {A = Judged A} (Ok a) (Err (orders.Denied (denial_view d))) = one _ _ h g in absurd cc
not_refused B refusals.OutOfMemory f one h is g = subst (λ (f : GetFault). IsShapeDenial {A = B} (Err f)) (sym is) tt

-- a fault is the same, of whatever it is one
pub shape_denial : (A B : Type 0) (f : GetFault) → IsShapeDenial {A = A} (Err f) → IsShapeDenial {A = B} (Err f)
shape_denial A B (Denied d) h = h
shape_denial A B (Load fault) h = h
shape_denial A B OutOfMemory h = h
