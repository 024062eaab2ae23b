-- Roots from the last down.
use Rattle.std.proofs.Common.{◌≡◌, ℕ, ◌+◌, ◌<◌, ◌≤◌, ◌⊎◌, inl, inr, List, [], ◌∷◌, ◌++◌, refl, sym, ◌∙◌, ap, subst, arith, min}
use Rattle.std.specs.Prelude.{Some, None, IsSome, true, false, is_some, Bool}
use Rattle.std.proofs.Math.Nat.{eq-or-lt_of_le, lt_of_not-le}
use Rattle.std.proofs.lemmas.List.{append-nil}
use Rattle.metadata.specs.File.{Bytes}
use Rattle.document_parts.specs.declared.documents.Kind.TheVariants as kinds
use Rattle.served_files.specs.Order.{LeadsTo, StandAfter}
use Rattle.served_files.specs.Served.{AreJust, Files, IsHeldFile, IsOfRoots, ServedFile, metadata, root_name}
use Rattle.served_files.specs.steps.Visits.{TellsRoot, TellsRoots}
use Rattle.served_files.proofs.Telling.{just_as, just_both, just_none, just_one}

pub roots_none : (files : Files) (last : ℕ) → StandAfter (LeadsTo files last) [] → TellsRoots files last last []
roots_none files last after = record {
  are_just = just_none (IsOfRoots files last last) (λ f is. let a : last < is.version = is.is_behind in let b : is.version ≤ last = is.is_within in absurd (omega arith));
  are_held = λ v behind within. absurd (omega arith);
  stand_after = after;
}

is_there : (files : Files) (v : ℕ) (bytes : Bytes) → files (root_name v) ≡ Some bytes → IsSome (files (root_name v))
is_there files v bytes held = ap is_some held

held_more : (files : Files) (n before last : ℕ) (bytes : Bytes) → before ≡ n + 1 → files (root_name before) ≡ Some bytes
    → ((v : ℕ) → before < v → v ≤ last → IsSome (files (root_name v))) → (v : ℕ) → n < v → v ≤ last → IsSome (files (root_name v))
held_more files n before last bytes next held above v behind within =
    let low : before ≤ v = omega arith in
    elim (eq-or-lt_of_le low) [
      | inl same ↦ subst (λ w. IsSome (files (root_name w))) same (is_there files before bytes held)
      | inr more ↦ above v more within
    ]

one_root : (files : Files) (before v : ℕ) (bytes : Bytes) (f : ServedFile) → before ≡ v → files (root_name before) ≡ Some bytes → IsHeldFile files kinds.Root (root_name v) f → f ≡ metadata kinds.Root (root_name before) bytes
one_root files before v bytes f same held (other, is, it) = cc

either_root : (files : Files) (n before last : ℕ) (bytes : Bytes) → before ≡ n + 1 → files (root_name before) ≡ Some bytes → (f : ServedFile) → IsOfRoots files n last f
    → IsOfRoots files before last f ⊎ (f ≡ metadata kinds.Root (root_name before) bytes)
either_root files n before last bytes next held f is =
    let a : n < is.version = is.is_behind in
    let low : before ≤ is.version = omega arith in
    elim (eq-or-lt_of_le low) [
      | inl same ↦ inr (one_root files before is.version bytes f same held is.is_file)
      | inr more ↦ inl (record { version = is.version; is_behind = more; is_within = is.is_within; are_held = is.are_held; is_file = is.is_file })
    ]

-- one more root, that is held
pub roots_more : (files : Files) (n before last : ℕ) (xs ys : List ServedFile) → before ≡ n + 1 → before ≤ last
    → TellsRoots files before last xs → TellsRoot files before true ys → StandAfter (LeadsTo files last) (xs ++ ys) → TellsRoots files n last (xs ++ ys)
roots_more files n before last xs ys next within told (bytes, held, same) after =
    let all : (v : ℕ) → n < v → v ≤ last → IsSome (files (root_name v)) = held_more files n before last bytes next held told.are_held in
    let x : ServedFile = metadata kinds.Root (root_name before) bytes in
    record {
      are_just = subst (λ zs. AreJust (IsOfRoots files n last) (xs ++ zs)) (sym same)
          (just_both (IsOfRoots files before last) (λ f. f ≡ x) (IsOfRoots files n last) xs (x ∷ []) told.are_just (just_one (λ f. f ≡ x) x refl (λ f is. is))
          (λ f is. record { version = is.version; is_behind = (let a : before < is.version = is.is_behind in omega arith); is_within = is.is_within; are_held = is.are_held; is_file = is.is_file })
          (λ f is. record { version = before; is_behind = omega arith; is_within = within; are_held = (λ v low high. let a : n < v = omega arith in all v a high); is_file = (bytes, held, is) })
          (λ f is. either_root files n before last bytes next held f is));
      are_held = all;
      stand_after = after;
    }

not_there : (files : Files) (v : ℕ) → files (root_name v) ≡ None → IsSome (files (root_name v)) → ⊥
not_there files v none there = let e : is_some (files (root_name v)) ≡ false = ap is_some none in absurd (let w : true ≡ false = sym there ∙ e in cc)

above : (files : Files) (after before last : ℕ) → files (root_name before) ≡ None → before ≤ last → (f : ServedFile) (is : IsOfRoots files after last f) → before < is.version
above files after before last none within f is = lt_of_not-le (λ (low : is.version ≤ before). not_there files before none (is.are_held before low within))

-- what is told of the root of this version
pub root_at : (files : Files) (v w : ℕ) (b d : Bool) (ys : List ServedFile) → v ≡ w → b ≡ d → TellsRoot files v b ys → TellsRoot files w d ys
root_at files v w b d ys same is told = subst (λ (n : ℕ). TellsRoot files n d ys) same (subst (λ (t : Bool). TellsRoot files v t ys) is told)

-- a root that is not held ends them
pub roots_end : (files : Files) (after before last : ℕ) (xs ys : List ServedFile) → after < before → before ≤ last
    → TellsRoots files before last xs → TellsRoot files before false ys → AreJust (IsOfRoots files after last) (xs ++ ys)
roots_end files after before last xs ys behind within told (none, same) =
    subst (λ zs. AreJust (IsOfRoots files after last) (xs ++ zs)) (sym same)
    (subst (λ zs. AreJust (IsOfRoots files after last) zs) (sym (append-nil xs))
    (just_as (IsOfRoots files before last) (IsOfRoots files after last) xs told.are_just
    (λ f is. record { version = is.version; is_behind = (let a : before < is.version = is.is_behind in omega arith); is_within = is.is_within; are_held = is.are_held; is_file = is.is_file })
    (λ f is. record { version = is.version; is_behind = above files after before last none within f is; is_within = is.is_within; are_held = is.are_held; is_file = is.is_file })))

-- all of them are held
pub roots_all : (files : Files) (after before last : ℕ) (xs : List ServedFile) → before ≤ after → min after last ≤ before
    → TellsRoots files before last xs → AreJust (IsOfRoots files after last) xs
roots_all files after before last xs end low told = just_as (IsOfRoots files before last) (IsOfRoots files after last) xs told.are_just
    (λ f is. record { version = is.version; is_behind = (let a : before < is.version = is.is_behind in let b : is.version ≤ last = is.is_within in omega arith); is_within = is.is_within; are_held = is.are_held; is_file = is.is_file })
    (λ f is. record { version = is.version; is_behind = (let a : after < is.version = is.is_behind in omega arith); is_within = is.is_within; are_held = is.are_held; is_file = is.is_file })
