-- Reading the items of a list one after the other.
use Rattle.std.proofs.Common.{◌≡◌, List, [], ◌∷◌, ◌++◌, length, sym, subst, arith}
use Rattle.std.specs.List.{AllZip}
use Rattle.std.proofs.Math.Seq.{append_snoc}
use Rattle.std.proofs.lemmas.List.{append-nil}

-- so far: what goes with the rest makes what goes with all, and what goes with all ends in what goes with the rest
pub record Reading {A B : Type 0} (R : A → B → Type 0) (all rest : List A) (done : List B) : Type 0 where
  pub front : (ys : List B) → AllZip R rest ys → AllZip R all (done ++ ys)
  pub back : (ys : List B) → AllZip R all ys → (zs : List B) × AllZip R rest zs

pub reading_none : {A B : Type 0} (R : A → B → Type 0) (all : List A) → Reading R all all []
reading_none R all = record { front = λ ys h. h; back = λ ys h. (ys, h) }

abbrev headed : {A B : Type 0} (R : A → B → Type 0) (x : A) (xs : List A) (ys : List B) → AllZip R (x ∷ xs) ys → (zs : List B) × AllZip R xs zs
headed R x xs [] h = absurd h
headed R x xs (y ∷ ys) h = (ys, h.1)

first_is : {A B : Type 0} (R : A → B → Type 0) (x : A) (xs : List A) (ys : List B) → AllZip R (x ∷ xs) ys → (y : B) × R x y
first_is R x xs [] h = absurd h
first_is R x xs (y ∷ ys) h = (y, h.0)

pub reading_goes : {A B : Type 0} (R : A → B → Type 0) (x : A) (y : B) (xs all rest : List A) (done : List B) → rest ≡ x ∷ xs → R x y
    → Reading R all rest done → Reading R all xs (done ++ y ∷ [])
reading_goes {A} {B} R x y xs all rest done e here so = record {
  front = λ ys h. subst (λ (l : List B). AllZip R all l) (sym (append_snoc done y ys))
      (so.front (y ∷ ys) (subst (λ (l : List A). AllZip R l (y ∷ ys)) (sym e) (here, h)));
  back = λ ys h. let b = so.back ys h in headed R x xs b.0 (subst (λ (l : List A). AllZip R l b.0) e b.1);
}

pub reading_fails : {A B : Type 0} (R : A → B → Type 0) (x : A) (xs all rest : List A) (done : List B) → rest ≡ x ∷ xs → ((y : B) → R x y → ⊥)
    → Reading R all rest done → (ys : List B) → AllZip R all ys → ⊥
reading_fails {A} R x xs all rest done e fails so ys h =
    let b = so.back ys h in
    let f = first_is R x xs b.0 (subst (λ (l : List A). AllZip R l b.0) e b.1) in
    fails f.0 f.1

pub reading_ends : {A B : Type 0} (R : A → B → Type 0) (all rest : List A) (done : List B) → length rest ≡ 0 → Reading R all rest done → AllZip R all done
reading_ends {A} {B} R all [] done e so = subst (λ (l : List B). AllZip R all l) (append-nil done) (so.front [] tt)
reading_ends R all (x ∷ xs) done e so = absurd (omega arith)
