-- Lines that are definite make a definite order: it has one judgement.
use Rattle.std.proofs.Common.{◌≡◌, Option, Some, None, List, [], ◌∷◌, Ok, Err, refl, sym, ap, subst}
use Rattle.denials.specs.Checks.{Check, Give, JudgedBy, OrderOver, Stopped, pass, decide, holds, fails, given, stopped, judges, ◌>>=◌, each, judged}
use Rattle.denials.specs.Orders.{Denial, Denied, differs, same, need_or, same_if}

abbrev pub Definite : {R : Type 0} → (R → Type 0) → Type 0
Definite {R} m = (r q : R) → m r → m q → r ≡ q

abbrev value_or : {E A : Type 0} → A → JudgedBy E A → A
value_or a (Ok b) = b
value_or a (Err why) = a

abbrev why_or : {E A : Type 0} → E → JudgedBy E A → E
why_or why (Ok b) = why
why_or why (Err other) = other

abbrev Passed : {E A : Type 0} → JudgedBy E A → Type 0
Passed (Ok a) = Unit {0}
Passed (Err why) = ⊥

pub ok-inj : {E A : Type 0} (a b : A) → ◌≡◌ {A = JudgedBy E A} (Ok a) (Ok b) → a ≡ b
ok-inj a b e = ap (λ j. value_or a j) e

pub err-inj : {E A : Type 0} (s t : E) → ◌≡◌ {A = JudgedBy E A} (Err s) (Err t) → s ≡ t
err-inj s t e = ap (λ j. why_or s j) e

pub ok-err : {E A : Type 0} (a : A) (why : E) → ◌≡◌ {A = JudgedBy E A} (Ok a) (Err why) → ⊥
ok-err a why e = subst (λ j. Passed j) e tt

-- each value that the line gives leads to one judgement
pub then-definite-so : {E A B : Type 0} (m : OrderOver E A) (f : A → OrderOver E B) → Definite m → ((a : A) → m (Ok a) → Definite (f a)) → Definite (m >>= f)
then-definite-so m f one each r q (pass {a} h k) (pass {a = b} g l) =
    each a h r q k (subst (λ x. f x q) (sym (ok-inj a b (one (Ok a) (Ok b) h g))) l)
then-definite-so m f one each r _ (pass {a} h k) (decide {why} g) = absurd (ok-err a why (one (Ok a) (Err why) h g))
then-definite-so m f one each _ q (decide {why} h) (pass {a = b} g l) = absurd (ok-err b why (one (Ok b) (Err why) g h))
then-definite-so m f one each _ _ (decide {why} h) (decide {why = other} g) = ap (λ x. Err x) (err-inj why other (one (Err why) (Err other) h g))

pub then-definite : {E A B : Type 0} (m : OrderOver E A) (f : A → OrderOver E B) → Definite m → ((a : A) → Definite (f a)) → Definite (m >>= f)
then-definite m f one each = then-definite-so m f one (λ a _. each a)

-- a line of an order, and what follows it
pub line : {E A B : Type 0} {m : OrderOver E A} {f : A → OrderOver E B} → Definite m → ((a : A) → Definite (f a)) → Definite (m >>= f)
line {E} {A} {B} {m} {f} one each = then-definite m f one each

pub check-definite : {E : Type 0} (why : E) (P : Type 0) → Definite (Check why P)
check-definite why P _ _ (holds p) (holds q) = refl
check-definite why P _ _ (holds p) (fails q) = absurd (q p)
check-definite why P _ _ (fails p) (holds q) = absurd (p q)
check-definite why P _ _ (fails p) (fails q) = refl

pub same_if-definite : (P : Type 0) → Definite (same_if P)
same_if-definite P _ _ (differs p) (differs q) = refl
same_if-definite P _ _ (differs p) (same q) = absurd (p q)
same_if-definite P _ _ (same p) (differs q) = absurd (q p)
same_if-definite P _ _ (same p) (same q) = refl

pub give-definite : {E A : Type 0} (a : A) → Definite (Give {E = E} a)
give-definite a _ _ given given = refl

pub stop-definite : {E A : Type 0} (why : E) → Definite (Stopped {A = A} why)
stop-definite why _ _ stopped stopped = refl

pub need_or-definite : {A : Type 0} (d : Denial) (o : Option A) → Definite (need_or d o)
need_or-definite d (Some a) = give-definite a
need_or-definite d None = stop-definite (Denied d)

pub judged-definite : {E A R : Type 0} (m : OrderOver E A) (f : JudgedBy E A → R → Type 0) → Definite m → ((j : JudgedBy E A) → Definite (f j)) → Definite (judged m f)
judged-definite m f one each r q (judges {j} h k) (judges {j = i} g l) =
    each j r q k (subst (λ x. f x q) (sym (one j i h g)) l)

pub each-definite : {E A B : Type 0} (f : A → OrderOver E B) (xs : List A) → ((a : A) → Definite (f a)) → Definite (each f xs)
each-definite f [] one = give-definite []
each-definite f (x ∷ xs) one =
    then-definite (f x) _ (one x) (λ y. then-definite (each f xs) _ (each-definite f xs one) (λ ys. give-definite (y ∷ ys)))
