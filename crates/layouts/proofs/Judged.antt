-- Steps through an order of checks, as the code takes them.
use Rattle.std.proofs.Common.{◌≡◌, ◌↔◌, ◌&&◌, IsTrue, Bool, true, false, List, [], ◌∷◌, Result, Ok, Err, inl, inr, refl, sym, subst}
use Rattle.denials.specs.Orders.{Denied, Judged, Order, Plain, ◌>>◌, check, pass, decide, holds, fails, given}
use Rattle.denials.specs.Numbers as no
use Rattle.layouts.specs.Faults.{IsDeniedBy, IsJudged, fault_number}
use Rattle.layouts.specs.Layouts.{all}
use Rattle.layouts.specs.steps.Gathering.{IsAgreed}
use Rattle.layouts.specs.declared.faults.LayoutFault.{LayoutFault}

-- what a line denies, the whole denies
pub denied_first : (m k : Order (Unit {0})) (e : LayoutFault) → IsDeniedBy m e → IsDeniedBy (m >> k) e
denied_first m k e (inl h) = inl h
denied_first m k e (inr h) = inr (decide h)

pub denied_next : (m k : Order (Unit {0})) (e : LayoutFault) → m (Ok tt) → IsDeniedBy k e → IsDeniedBy (m >> k) e
denied_next m k e p (inl h) = inl h
denied_next m k e p (inr h) = inr (pass p h)

pub judged_next : (m k : Order (Unit {0})) (r : Result (Unit {0}) LayoutFault) → m (Ok tt) → IsJudged k r → IsJudged (m >> k) r
judged_next m k (Ok done) p h = pass p h
judged_next m k (Err e) p h = denied_next m k e p h

-- ---- each of a list in turn

module _ {A : Type 0} (f : A → Order (Unit {0})) where
  -- what the rest is judged as, the whole is
  abbrev pub Follows : List A → List A → Type 0
  Follows whole rest = (r : Judged (Unit {0})) → all f rest r → all f whole r

  pub passed : (whole rest later : List A) (x : A) → rest ≡ x ∷ later → f x (Ok tt) → Follows whole rest → Follows whole later
  passed whole rest later x at p follows r h = follows r (subst (λ (xs : List A). all f xs r) (sym at) (pass p h))

  pub denied_in : (whole rest later : List A) (x : A) (e : LayoutFault) → rest ≡ x ∷ later → Follows whole rest → IsDeniedBy (f x) e → IsDeniedBy (all f whole) e
  denied_in whole rest later x e at follows (inl h) = inl h
  denied_in whole rest later x e at follows (inr h) =
      let r : Judged (Unit {0}) = Err (Denied (Plain (fault_number e))) in
      inr (follows r (subst (λ (xs : List A). all f xs r) (sym at) (decide h)))

-- ---- whether each agrees

module _ {A : Type 0} (P : A → Type 0) where
  abbrev pub each_agrees : A → Order (Unit {0})
  each_agrees x = check no.links_disagree (P x)

  -- all so far agree, or one does not
  abbrev pub AgreeSoFar : Bool → List A → List A → Type 0
  AgreeSoFar true whole rest = Follows each_agrees whole rest
  AgreeSoFar false whole rest = all each_agrees whole (Err (Denied (Plain no.links_disagree)))

  agree_by : (whole rest later : List A) (x : A) (a b : Bool) → rest ≡ x ∷ later → IsTrue b ↔ P x → AgreeSoFar a whole rest → AgreeSoFar (a && b) whole later
  agree_by whole rest later x true true at told so = passed each_agrees whole rest later x at (holds (told.0 refl)) so
  agree_by whole rest later x true false at told so =
      let r : Judged (Unit {0}) = Err (Denied (Plain no.links_disagree)) in
      so r (subst (λ (xs : List A). all each_agrees xs r) (sym at) (decide (fails (λ p. let both : false ≡ true = told.1 p in absurd (cc)))))
  agree_by whole rest later x false b at told so = so

  pub agree_next : (whole rest later : List A) (x : A) (a b r : Bool) → rest ≡ x ∷ later → r ≡ a && b → IsTrue b ↔ P x → AgreeSoFar a whole rest → AgreeSoFar r whole later
  agree_next whole rest later x a b r at is told so = subst (λ (z : Bool). AgreeSoFar z whole later) (sym is) (agree_by whole rest later x a b at told so)

  agreed_at_end : (whole : List A) (a : Bool) → AgreeSoFar a whole [] → IsAgreed (all each_agrees whole) a
  agreed_at_end whole true so = so (Ok tt) given
  agreed_at_end whole false so = so

  pub agreed : (whole rest : List A) (a : Bool) → rest ≡ [] → AgreeSoFar a whole rest → IsAgreed (all each_agrees whole) a
  agreed whole rest a at so = agreed_at_end whole a (subst (λ (xs : List A). AgreeSoFar a whole xs) at so)
