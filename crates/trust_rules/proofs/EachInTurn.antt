-- Each of a list in turn, as a loop goes over it.
use Rattle.std.proofs.Common.{◌≡◌, List, [], ◌∷◌, ◌++◌, Ok, Err, sym, subst}
use Rattle.std.specs.List.{AllByRecursion}
use Rattle.std.proofs.lemmas.List.{append-nil}
use Rattle.std.proofs.Math.Seq.{append_snoc}
use Rattle.denials.specs.Orders.{Order, Stop, each, decide, given, pass}

module _ {A B : Type 0} (f : A → Order B) where
  -- what the rest gives stands after what was given, and what it ends in is what the whole ends in
  pub record Follows (whole rest : List A) (done : List B) : Type 0 where
    pub gives : (ys : List B) → each f rest (Ok ys) → each f whole (Ok (done ++ ys))
    pub ends : (s : Stop) → each f rest (Err s) → each f whole (Err s)

  pub follows_first : (whole : List A) → Follows whole whole []
  follows_first whole = record { gives = λ ys h. h; ends = λ s h. h }

  pub follows_next : (whole rest later : List A) (x : A) (done : List B) (y : B) → rest ≡ x ∷ later → f x (Ok y) → Follows whole rest done → Follows whole later (done ++ y ∷ [])
  follows_next whole rest later x done y at p follows = record {
    gives = λ ys h.
        subst (λ (zs : List B). each f whole (Ok zs)) (sym (append_snoc done y ys))
        (follows.gives (y ∷ ys) (subst (λ (xs : List A). each f xs (Ok (y ∷ ys))) (sym at) (pass p (pass h given))));
    ends = λ s h. follows.ends s (subst (λ (xs : List A). each f xs (Err s)) (sym at) (pass p (decide h)));
  }

  pub follows_end : (whole rest : List A) (done : List B) → rest ≡ [] → Follows whole rest done → each f whole (Ok done)
  follows_end whole rest done at follows =
      subst (λ (zs : List B). each f whole (Ok zs)) (append-nil done) (follows.gives [] (subst (λ (xs : List A). each f xs (Ok [])) (sym at) given))

  pub follows_ends : (whole rest later : List A) (x : A) (done : List B) (s : Stop) → rest ≡ x ∷ later → f x (Err s) → Follows whole rest done → each f whole (Err s)
  follows_ends whole rest later x done s at h follows = follows.ends s (subst (λ (xs : List A). each f xs (Err s)) (sym at) (decide h))

pub more_all : {A : Type 0} (P : A → Type 0) (xs : List A) (x : A) → AllByRecursion P xs → P x → AllByRecursion P (xs ++ x ∷ [])
more_all P [] x all h = (h, tt)
more_all P (y ∷ xs) x all h = (all.0, more_all P xs x all.1 h)
