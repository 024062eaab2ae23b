-- Steps through an order of checks, as the code takes them.
use Rattle.std.proofs.Common.{◌≡◌, ℕ, Bool, true, false, Ok, Err, IsTrue, cond, sym, subst, ◌⊎◌, inl, inr}
use Rattle.metadata.specs.File.{Bytes, File, Form}
use Rattle.denials.specs.Orders as orders
use Rattle.denials.specs.Orders.{Order, Plain, Same, ◌>>=◌, pass, decide, fails, given, check}
use Rattle.metadata.specs.Shaped.{faulty, shaped}
use Rattle.metadata.specs.Shape.{IsShapeFault}
use Rattle.document_parts.specs.declared.documents.ShapeFault.{ShapeFault}
use Rattle.document_parts.specs.declared.documents.ShapeFault.TheVariants as shapes
use Rattle.document_parts.specs.Documents.{Root}
use Rattle.trust_rules.specs.State.{Trusted}
use Rattle.trust_rules.specs.Offers.{KeepsRoles, after_root, kept, rotated, with_root, emptied}
use Rattle.trust_rules.proofs.OrderLines.{yes, no}
use Rattle.trusted_state.specs.Answers.{Gives, gives, denies, forgoes}
use Rattle.trusted_state.specs.steps.Judging.{Judges, accepts, keeps, rejects, stops, Ends, ends, gives_up, IsDeniedAs, IsRefusedShape}
use Rattle.trusted_state.specs.declared.refusal.Refusal.{Refusal}
use Rattle.trusted_state.specs.declared.refusal.Refusal.TheVariants.{Denied, OutOfMemory}

-- a denial in a part of an order is one of the whole
pub denied_in : {A B X Y : Type 0} {m : Order A} {f : A → Order B} {view : X → A} {wide : Y → B} {r : Refusal} → Gives m view (Err r) → Gives (m >>= f) wide (Err r)
denied_in (denies g) = denies (decide g)
denied_in forgoes = forgoes

pub rejected_in : {A B X : Type 0} {m : Order A} {f : A → Order B} {view : X → A} {after : B} {r : Refusal} → Gives m view (Err r) → Judges (m >>= f) after (Err r)
rejected_in (denies g) = rejects (decide g)
rejected_in forgoes = stops

pub ends_in : {A X : Type 0} {m : Order A} {f : A → Order Trusted} {view : X → A} {old new : Trusted} {r : Refusal} → Gives m view (Err r) → Ends (m >>= f) old new (Err r)
ends_in (denies g) = ends (decide g)
ends_in forgoes = gives_up

-- and so is one after a line that passes
pub denied_behind : {A B Y : Type 0} {m : Order A} {f : A → Order B} {wide : Y → B} (a : A) {r : Refusal} → m (Ok a) → Gives (f a) wide (Err r) → Gives (m >>= f) wide (Err r)
denied_behind a p (denies g) = denies (pass p g)
denied_behind a p forgoes = forgoes

pub ends_behind : {A : Type 0} {m : Order A} {f : A → Order Trusted} {old new : Trusted} (a : A) {r : Refusal} → m (Ok a) → Ends (f a) old new (Err r) → Ends (m >>= f) old new (Err r)
ends_behind a p (ends g) = ends (pass p g)
ends_behind a p gives_up = gives_up

-- what is judged so ends so
pub ends_given : {X : Type 0} {m : Order Trusted} {view : X → Trusted} {old new : Trusted} {r : Refusal} → Gives m view (Err r) → Ends m old new (Err r)
ends_given (denies g) = ends g
ends_given forgoes = gives_up

pub ends_rejected : {m : Order Trusted} {given old new : Trusted} {r : Refusal} → Judges m given (Err r) → Ends m old new (Err r)
ends_rejected (rejects g) = ends g
ends_rejected stops = gives_up

pub rejected_here : {A B : Type 0} {m : Order A} {f : A → Order B} {given : A} {after : B} {r : Refusal} → Judges m given (Err r) → Judges (m >>= f) after (Err r)
rejected_here (rejects g) = rejects (decide g)
rejected_here stops = stops

pub rejected_behind : {A B : Type 0} {m : Order A} {f : A → Order B} {after : B} (a : A) {r : Refusal} → m (Ok a) → Judges (f a) after (Err r) → Judges (m >>= f) after (Err r)
rejected_behind a p (rejects g) = rejects (pass p g)
rejected_behind a p stops = stops

-- the value that was given
pub given_by : {A B : Type 0} {m : Order B} {view : A → B} {a : A} → Gives m view (Ok a) → m (Ok (view a))
given_by (gives g) = g

as_denied : {A X : Type 0} {m : Order A} {view : X → A} (n : ℕ) (r : Refusal) → IsDeniedAs n r → m (Err (orders.Denied (Plain n))) → Gives m view (Err r)
as_denied {A} {X} {m} n (Denied d) is k = denies (subst (λ x. m (Err (orders.Denied x))) (sym is) k)
as_denied n OutOfMemory is k = absurd is

-- a file of another shape is denied by the number of the check that fails
pub of_another_shape : {A X : Type 0} (form : Form A) (view : X → File A) (b : Bytes) (fault : ShapeFault) (r : Refusal)
    → (fault ≡ shapes.OutOfMemory) ⊎ IsShapeFault form.kind b fault → IsRefusedShape fault r → Gives (shaped form b) view (Err r)
of_another_shape {A} {X} form view b shapes.TooLong r (inl e) is = absurd cc
of_another_shape {A} {X} form view b shapes.TooLong r (inr h) is = as_denied {m = shaped form b} 1 r is (faulty shapes.TooLong h)
of_another_shape {A} {X} form view b shapes.NotCanonical r (inl e) is = absurd cc
of_another_shape {A} {X} form view b shapes.NotCanonical r (inr h) is = as_denied {m = shaped form b} 2 r is (faulty shapes.NotCanonical h)
of_another_shape {A} {X} form view b shapes.WrongShape r (inl e) is = absurd cc
of_another_shape {A} {X} form view b shapes.WrongShape r (inr h) is = as_denied {m = shaped form b} 3 r is (faulty shapes.WrongShape h)
of_another_shape {A} {X} form view b shapes.WrongType r (inl e) is = absurd cc
of_another_shape {A} {X} form view b shapes.WrongType r (inr h) is = as_denied {m = shaped form b} 4 r is (faulty shapes.WrongType h)
of_another_shape {A} {X} form view b shapes.BadKeyId r (inl e) is = absurd cc
of_another_shape {A} {X} form view b shapes.BadKeyId r (inr h) is = as_denied {m = shaped form b} 5 r is (faulty shapes.BadKeyId h)
of_another_shape {A} {X} form view b shapes.OutOfMemory r h is = subst (λ x. Gives (shaped form b) view (Err x)) (sym is) forgoes

pub accepted : {A : Type 0} {m : Order A} {given : A} {b : Bool} → b ≡ true → Judges m given (Ok b) → m (Ok given)
accepted e (accepts g) = g
accepted e (keeps g) = absurd (subst (λ (b : Bool). cond b ⊥ (Unit {0})) e tt)

pub kept_same : {A : Type 0} {m : Order A} {given : A} {b : Bool} → b ≡ false → Judges m given (Ok b) → m (Err Same)
kept_same e (keeps g) = g
kept_same e (accepts g) = absurd (subst (λ (b : Bool). cond b (Unit {0}) ⊥) e tt)

-- what is left after a new root
pub by_rotation : {T : Trusted} {old new : File Root} (keeps : Bool) → (IsTrue keeps → KeepsRoles old.body new.body) × (KeepsRoles old.body new.body → IsTrue keeps)
    → after_root T old new (Ok (cond keeps (with_root T new) (emptied (with_root T new))))
by_rotation true h = kept (yes h)
by_rotation false h = rotated (no h)
