-- Orders of checks, over what may end one. An order says which judgements a case may end in. In a `do` block the first line that
-- fails decides. Each line is a fact by constructors: `pass` where it gives a value and the rest goes on with it, `decide` where it
-- ends the case.
use Rattle.std.specs.Prelude.{Result, Ok, Err, List, [], ◌∷◌}

-- a value, or why there is none
abbrev pub JudgedBy : Type 0 → Type 0 → Type 0
JudgedBy E A = Result A E

abbrev pub OrderOver : Type 0 → Type 0 → Type 1
OrderOver E A = JudgedBy E A → Type 0

-- a line and what follows it with the line's value
pub data Then {E A B : Type 0} (m : OrderOver E A) (f : A → OrderOver E B) : JudgedBy E B → Type 0 where
  pass : {a : A} {r : JudgedBy E B} → m (Ok a) → f a r → Then m f r
  decide : {why : E} → m (Err why) → Then m f (Err why)

pub data Check {E : Type 0} (why : E) (P : Type 0) : JudgedBy E (Unit {0}) → Type 0 where
  holds : P → Check why P (Ok tt)
  fails : ¬ P → Check why P (Err why)

pub data Give {E A : Type 0} (a : A) : JudgedBy E A → Type 0 where
  given : Give a (Ok a)

pub data Stopped {E A : Type 0} (why : E) : JudgedBy E A → Type 0 where
  stopped : Stopped why (Err why)

pub data Given {E A R : Type 0} (m : OrderOver E A) (f : JudgedBy E A → R → Type 0) (r : R) : Type 0 where
  judges : {j : JudgedBy E A} → m j → f j r → Given m f r

infixl 20 ◌>>=◌
infixl 20 ◌>>◌
abbrev pub ◌>>=◌ : {E A B : Type 0} → OrderOver E A → (A → OrderOver E B) → OrderOver E B
◌>>=◌ m f = Then m f

abbrev pub ◌>>◌ : {E A B : Type 0} → OrderOver E A → OrderOver E B → OrderOver E B
◌>>◌ m k = Then m (λ _. k)

abbrev pub give : {E A : Type 0} → A → OrderOver E A
give a = Give a

abbrev pub stop : {E A : Type 0} → E → OrderOver E A
stop why = Stopped why

-- each of a list in turn, with the values that they give
abbrev pub each : {E A B : Type 0} → (A → OrderOver E B) → List A → OrderOver E (List B)
each f [] = give []
each f (x ∷ xs) = f x >>= λ y. each f xs >>= λ ys. give (y ∷ ys)

-- the judgement itself, whatever it is, and what follows from it
abbrev pub judged : {E A R : Type 0} → OrderOver E A → (JudgedBy E A → R → Type 0) → R → Type 0
judged m f = Given m f
