-- Lists that go on.
use Rattle.std.proofs.Common.{◌≡◌, List, [], ◌∷◌, ◌++◌, length, refl, arith, sym, subst}
use Rattle.std.proofs.lemmas.List.{append-nil}
use Rattle.std.proofs.Math.Seq.{append_snoc}
use Rattle.std.specs.List.{AllZip}

pub none_left : {A : Type 0} (xs : List A) → length xs ≡ 0 → xs ≡ []
none_left [] h = refl
none_left (x ∷ xs) h = absurd (omega (arith, h))

-- what the rest is paired with, after what is paired, is what all are paired with
module _ {A B : Type 0} (R : A → B → Type 0) where
  abbrev pub Paired : List A → List A → List B → Type 0
  Paired all rest done = (more : List B) → AllZip R rest more → AllZip R all (done ++ more)

  pub pair_next : (all rest later : List A) (x : A) (done : List B) (y : B) → rest ≡ x ∷ later → R x y → Paired all rest done → Paired all later (done ++ y ∷ [])
  pair_next all rest later x done y at r paired more h =
      subst (λ (zs : List B). AllZip R all zs) (sym (append_snoc done y more))
      (paired (y ∷ more) (subst (λ (zs : List A). AllZip R zs (y ∷ more)) (sym at) (r, h)))

  pub pair_done : (all rest : List A) (done : List B) → rest ≡ [] → Paired all rest done → AllZip R all done
  pair_done all rest done at paired =
      subst (λ (zs : List B). AllZip R all zs) (append-nil done) (paired [] (subst (λ (zs : List A). AllZip R zs []) (sym at) tt))
