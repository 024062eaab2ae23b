-- Values that are there, and tests, at the lines of an order of checks.
use Rattle.std.proofs.Common.{◌≡◌, Bool, true, false, Option, Some, None, Ok, Err, IsTrue, cond, refl, sym, subst}
use Rattle.denials.specs.Orders as orders
use Rattle.denials.specs.Orders.{need_or, given, stopped}

-- a value that is there
pub needed : {A : Type 0} (d : orders.Denial) (o : Option A) (a : A) → o ≡ Some a → need_or d o (Ok a)
needed d o a e = subst (λ x. need_or d x (Ok a)) (sym e) given

pub lacking : {A : Type 0} (d : orders.Denial) (o : Option A) → o ≡ None → need_or d o (Err (orders.Denied d))
lacking d o e = subst (λ x. need_or d x (Err (orders.Denied d))) (sym e) stopped

-- what a check has told
pub yes : {P : Type 0} → (IsTrue true → P) × (P → IsTrue true) → P
yes h = h.0 refl

pub no : {P : Type 0} → (IsTrue false → P) × (P → IsTrue false) → ¬ P
no h = λ p. subst (λ (b : Bool). cond b ⊥ (Unit {0})) (h.1 p) tt
