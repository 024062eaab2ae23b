-- What an order gives, from what its lines give.
use Rattle.std.proofs.Common.{◌≡◌, ℕ, Option, Some, None, Ok, refl}
use Rattle.std.specs.Prelude.{IfOk}
use Rattle.document_parts.specs.Documents.{Root}
use Rattle.metadata.specs.File.{Bytes, File, Form, IsFileOf}
use Rattle.denials.specs.Orders.{Denial, Judged, Order, pass, decide, holds, fails, differs, same, given, stopped, ◌>>=◌, give, check, need_or, same_if}
use Rattle.metadata.specs.Shaped.{reads, faulty, shaped}
use Rattle.trust_rules.specs.Offers.{live_snapshot}
use Rattle.trust_rules.specs.State.{Trusted}

-- whatever value it gives is such a one
pub record Gives {A : Type 0} (P : A → Type 0) (m : Order A) : Type 0 where
  pub each : (j : Judged A) → m j → IfOk j P

-- a line of an order, and what follows it
line_each : {A B : Type 0} (P : B → Type 0) (m : Order A) (f : A → Order B) → ((a : A) → m (Ok a) → Gives P (f a)) → (j : Judged B) → (m >>= f) j → IfOk j P
line_each P m f rest _ (pass {a} {r} h k) = (rest a h).each r k
line_each P m f rest _ (decide h) = tt

pub line : {A B : Type 0} {P : B → Type 0} {m : Order A} {f : A → Order B} → ((a : A) → m (Ok a) → Gives P (f a)) → Gives P (m >>= f)
line {A} {B} {P} {m} {f} rest = record { each = line_each P m f rest }

give_each : {A : Type 0} (P : A → Type 0) (a : A) → P a → (j : Judged A) → give a j → IfOk j P
give_each P a h _ given = h

pub gives : {A : Type 0} {P : A → Type 0} (a : A) → P a → Gives P (give a)
gives {A} {P} a h = record { each = give_each P a h }

-- ---- what a line that passes says

pub checked_each : (n : ℕ) (P : Type 0) (j : Judged (Unit {0})) → check n P j → IfOk j (λ u. P)
checked_each n P _ (holds h) = h
checked_each n P _ (fails h) = tt

pub checked : (n : ℕ) (P : Type 0) (u : Unit {0}) → check n P (Ok u) → P
checked n P u h = checked_each n P (Ok u) h

differs_each : (P : Type 0) (j : Judged (Unit {0})) → same_if P j → IfOk j (λ u. ¬ P)
differs_each P _ (differs h) = h
differs_each P _ (same h) = tt

pub differed : (P : Type 0) (u : Unit {0}) → same_if P (Ok u) → ¬ P
differed P u h = differs_each P (Ok u) h

needed_each : {A : Type 0} (d : Denial) (o : Option A) (j : Judged A) → need_or d o j → IfOk j (λ a. o ≡ Some a)
needed_each d (Some a) _ given = refl
needed_each d None _ stopped = tt

pub needed : {A : Type 0} (d : Denial) (o : Option A) (a : A) → need_or d o (Ok a) → o ≡ Some a
needed d o a h = needed_each d o (Ok a) h

shaped_each : {A : Type 0} (form : Form A) (b : Bytes) (j : Judged (File A)) → shaped form b j → IfOk j (λ f. IsFileOf form f)
shaped_each form b _ (reads h e) = h
shaped_each form b _ (faulty f h) = tt

pub read : {A : Type 0} (form : Form A) (b : Bytes) (f : File A) → shaped form b (Ok f) → IsFileOf form f
read form b f h = shaped_each form b (Ok f) h

pub given_by : {A : Type 0} (P : A → Type 0) (m : Order A) (a : A) → Gives P m → m (Ok a) → P a
given_by P m a g h = g.each (Ok a) h

-- the snapshot that is live is the one that is held
pub live_gives : (T : Trusted) (root : File Root) (now : ℕ) → Gives (λ snap. T.snapshot ≡ Some snap) (live_snapshot T.timestamp T.snapshot root now)
live_gives T root now =
    line (λ stamp h.
    line (λ snap at.
    line (λ _ k.
    line (λ _ l. gives snap (needed _ T.snapshot snap at)))))
