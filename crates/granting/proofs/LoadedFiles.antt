-- What is found by bytes that are loaded.
use Rattle.std.proofs.Common.{◌≡◌, ◌⊎◌, ◌∙◌, inl, inr, ℕ, List, ◌∷◌, Result, Ok, Err, refl, sym, subst}
use Rattle.std.specs.Prelude.{◌↔◌, IsTrue, IsSome}
use Rattle.metadata.specs.File.{Bytes, File, Form, IsFileOf}
use Rattle.metadata.specs.Shape.{IsShapeFault}
use Rattle.metadata.specs.Shaped.{faulty, reads}
use Rattle.document_parts.specs.declared.documents.ShapeFault.{ShapeFault}
use Rattle.document_parts.specs.declared.documents.ShapeFault.TheVariants as shapes
use Rattle.denials.specs.Numbers as no
use Rattle.denials.specs.Orders as orders
use Rattle.denials.specs.Orders.{Order, Plain, ◌>>=◌, decide, each, given, judges, pass, stopped}
use Rattle.layouts.specs.Faults.{IsDeniedBy}
use Rattle.layouts.specs.declared.faults.LayoutFault.{LayoutFault}
use Rattle.layouts.specs.declared.faults.LayoutFault.TheVariants as verdicts
use Rattle.trusted_state.specs.Answers.{Gives, denies as denied, forgoes as forgone}
use Rattle.trust_rules.specs.Held.{Held, StandsFor, held_of, length_at}
use Rattle.granting.specs.Serving.{is_by_layout}
use Rattle.trust_rules.specs.State.{State, IsState}
use Rattle.trust_rules.specs.Grants.{read_as}
use Rattle.granting.specs.steps.Permitting.{Finds, IsFaultOf, IsLayoutAnswer, IsLentSo, IsLoaded, IsRefusedSo, IsShapeAnswer, Reads, FindsLoaded, Told, ToldFault, at_once, by_bytes, denies, fails, finds, forgoes}
use Rattle.trusted_state.specs.declared.refusal.Refusal.{Refusal}
use Rattle.trusted_state.specs.declared.refusal.Refusal.TheVariants as refusals
use Rattle.granting.specs.declared.serving.GetFault.{GetFault}
use Rattle.granting.specs.declared.serving.GetFault.TheVariants.{Denied, Load, OutOfMemory}
use Rattle.granting.specs.declared.serving.LoadFault.TheVariants as loads
use Rattle.trust_rules.proofs.EachInTurn.{Follows, follows_ends}
use Rattle.granting.proofs.ServedFrom.{none_missing}

-- ---- answers

-- a denial in a part of an order is one of the whole, and so is one after a line that passes
pub finds_in : {A B X Y : Type 0} {m : Order A} {k : A → Order B} {view : X → A} {wide : Y → B} {f : GetFault} → Finds m view (Err f) → Finds (m >>= k) wide (Err f)
finds_in (denies h) = denies (decide h)
finds_in (fails n) = fails n
finds_in forgoes = forgoes

pub finds_behind : {A B X : Type 0} {m : Order A} {k : A → Order B} {view : X → B} {r : Result X GetFault} (a : A) → m (Ok a) → Finds (k a) view r → Finds (m >>= k) view r
finds_behind a p (finds h) = finds (pass p h)
finds_behind a p (denies h) = denies (pass p h)
finds_behind a p (fails n) = fails n
finds_behind a p forgoes = forgoes

pub found_by : {A B : Type 0} {m : Order B} {view : A → B} {a : A} → Finds m view (Ok a) → m (Ok (view a))
found_by (finds h) = h

pub refused_in : {A B X Y : Type 0} {m : Order A} {k : A → Order B} {view : X → A} {wide : Y → B} (r : Refusal) (f : GetFault) → IsRefusedSo r f → Gives m view (Err r) → Finds (m >>= k) wide (Err f)
refused_in {m = m} {k = k} {wide = wide} (refusals.Denied d) f is (denied g) = subst (λ (f : GetFault). Finds (m >>= k) wide (Err f)) (sym is) (denies (decide g))
refused_in {m = m} {k = k} {wide = wide} refusals.OutOfMemory f is h = subst (λ (f : GetFault). Finds (m >>= k) wide (Err f)) (sym is) forgoes

-- of a state's own bytes
pub lent_gives : {A B X : Type 0} {m : Order B} {view : A → B} {wide : X → B} (f : GetFault) (r : Refusal) → IsLentSo f r → Finds m view (Err f) → Gives m wide (Err r)
lent_gives {m = m} {wide = wide} (Denied d) r is (denies h) = subst (λ (r : Refusal). Gives m wide (Err r)) (sym is) (denied h)
lent_gives {m = m} {wide = wide} (Load fault) r is h = subst (λ (r : Refusal). Gives m wide (Err r)) (sym is) forgone
lent_gives {m = m} {wide = wide} OutOfMemory r is h = subst (λ (r : Refusal). Gives m wide (Err r)) (sym is) forgone

-- ---- how answers stand

pub told_err : {P Q : Type 0} (f : GetFault) → (P → Q) → ToldFault P f → ToldFault Q f
told_err (Denied d) so t = (so t.0, t.1)
told_err (Load fault) so t = tt
told_err OutOfMemory so t = tt

pub told_more : {A P Q : Type 0} (r : Result A GetFault) → (P → Q) → Told P r → Told Q r
told_more (Ok a) so t = so t
told_more (Err f) so t = told_err f so t

module _ {H : Held} {honest : Type 0} {Holds : Bytes → Bytes → Type 0} {unloaded loaded : Type 0} where
  -- an answer by another
  pub stands_by : {A B X Y : Type 0} {more : Type 0} {m : State → Order A} {n : State → Order B} {view : State → X → A} {wide : State → Y → B} (r : Result X GetFault) (q : Result Y GetFault)
      → (Told loaded r → Told more q) → ((S : State) → IsState S → held_of S ≡ H → Finds (m S) (view S) r → Finds (n S) (wide S) q)
      → FindsLoaded H honest Holds unloaded loaded m view r → FindsLoaded H honest Holds unloaded more n wide q
  stands_by r q told so (at_once u h) = at_once u (λ S v is. so S v is (h S v is))
  stands_by r q told so (by_bytes t h) = by_bytes (told t) (λ true_so S stands. so S stands.valid stands.held (h true_so S stands))

  pub stands_in : {A B X Y : Type 0} {m : State → Order A} {k : State → A → Order B} {view : State → X → A} {wide : State → Y → B} (f : GetFault)
      → FindsLoaded H honest Holds unloaded loaded m view (Err f) → FindsLoaded H honest Holds unloaded loaded (λ S. m S >>= k S) wide (Err f)
  stands_in f stands = stands_by (Err f) (Err f) (told_err f (λ l. l)) (λ S v is h. finds_in h) stands

  -- what it is of a state for which the bytes stand
  pub stands_so : {A B : Type 0} {m : State → Order B} {view : State → A → B} {r : Result A GetFault} (S : State)
      → FindsLoaded H honest Holds unloaded loaded m view r → honest → StandsFor H Holds S → Finds (m S) (view S) r
  stands_so S (at_once u h) true_so stands = h S stands.valid stands.held
  stands_so S (by_bytes t h) true_so stands = h true_so S stands

-- bytes that stand for a state still do
pub still_stands : {H : Held} {P Q : Bytes → Bytes → Type 0} {S : State} → ((digest bytes : Bytes) → P digest bytes ↔ Q digest bytes) → StandsFor H P S → StandsFor H Q S
still_stands {P = P} {Q = Q} same stands = record {
  valid = stands.valid;
  held = stands.held;
  blobs = λ k d h bytes.
      let row = stands.blobs k d h bytes in
      let both = same _ bytes in
      ((λ q. row.0 (both.1 q)), (λ e. both.0 (row.1 e)));
}

-- ---- several calls

pub reads_none : {K : Type 0} {IsHonest : K → Type 0} {Holds : K → Bytes → Bytes → Type 0} {MayBecome : K → K → Type 0} (a : K) → Reads IsHonest Holds MayBecome a a
reads_none a = record { becomes = inl refl; was = λ h. h; stays = λ h d b. ((λ x. x), (λ x. x)) }

-- by some calls, and then by more
pub became_by : {K : Type 0} {MayBecome : K → K → Type 0} → ((a b c : K) → MayBecome a b → MayBecome b c → MayBecome a c) → (a b c : K)
    → (b ≡ a) ⊎ MayBecome a b → (c ≡ b) ⊎ MayBecome b c → (c ≡ a) ⊎ MayBecome a c
became_by on a b c (inl e) (inl f) = inl (f ∙ e)
became_by {MayBecome = M} on a b c (inl e) (inr q) = inr (subst (λ x. M x c) e q)
became_by {MayBecome = M} on a b c (inr p) (inl f) = inr (subst (λ x. M a x) (sym f) p)
became_by on a b c (inr p) (inr q) = inr (on a b c p q)

pub reads_then : {K : Type 0} {IsHonest : K → Type 0} {Holds : K → Bytes → Bytes → Type 0} {MayBecome : K → K → Type 0}
    → ((a b c : K) → MayBecome a b → MayBecome b c → MayBecome a c) → (a b c : K)
    → Reads IsHonest Holds MayBecome a b → Reads IsHonest Holds MayBecome b c → Reads IsHonest Holds MayBecome a c
reads_then on a b c one two = record {
  becomes = became_by on a b c one.becomes two.becomes;
  was = λ h. one.was (two.was h);
  stays = λ h d x.
      let first = one.stays (two.was h) d x in
      let then = two.stays h d x in
      ((λ p. then.0 (first.0 p)), (λ q. first.1 (then.1 q)));
}

-- ---- documents

as_fault : {A X : Type 0} {m : Order A} {view : X → A} (n : ℕ) (f : GetFault) → IsFaultOf n f → m (Err (orders.Denied (Plain n))) → Finds m view (Err f)
as_fault {m = m} n (Denied d) is h = denies (subst (λ x. m (Err (orders.Denied x))) (sym is) h)
as_fault n (Load fault) is h = absurd is
as_fault n OutOfMemory is h = absurd is

-- the file is read
pub is_read : {A X : Type 0} (form : Form A) (view : X → File A) (x : X) (b c : Bytes) → IsFileOf form (view x) × ((view x).bytes ≡ b) → b ≡ c → Finds (read_as form c) view (Ok x)
is_read form view x b c is same = finds (judges (reads is.0 (is.1 ∙ same)) given)

-- the file is of another shape
other_shape : {A : Type 0} (form : Form A) (b c : Bytes) (e : ShapeFault) → IsShapeFault form.kind b e → b ≡ c → read_as form c (Err (orders.Denied (Plain no.layout_shape)))
other_shape form b c e is same = judges (faulty e (subst (λ (x : Bytes). IsShapeFault form.kind x e) same is)) stopped

pub is_ill : {A X : Type 0} (form : Form A) (view : X → File A) (b c : Bytes) (e : ShapeFault) (f : GetFault) → (e ≡ shapes.OutOfMemory) ⊎ IsShapeFault form.kind b e → IsShapeAnswer e f → b ≡ c
    → Finds (read_as form c) view (Err f)
is_ill form view b c shapes.TooLong f (inl no_memory) is same = absurd cc
is_ill form view b c shapes.TooLong f (inr h) is same = as_fault no.layout_shape f is (other_shape form b c shapes.TooLong h same)
is_ill form view b c shapes.NotCanonical f (inl no_memory) is same = absurd cc
is_ill form view b c shapes.NotCanonical f (inr h) is same = as_fault no.layout_shape f is (other_shape form b c shapes.NotCanonical h same)
is_ill form view b c shapes.WrongShape f (inl no_memory) is same = absurd cc
is_ill form view b c shapes.WrongShape f (inr h) is same = as_fault no.layout_shape f is (other_shape form b c shapes.WrongShape h same)
is_ill form view b c shapes.WrongType f (inl no_memory) is same = absurd cc
is_ill form view b c shapes.WrongType f (inr h) is same = as_fault no.layout_shape f is (other_shape form b c shapes.WrongType h same)
is_ill form view b c shapes.BadKeyId f (inl no_memory) is same = absurd cc
is_ill form view b c shapes.BadKeyId f (inr h) is same = as_fault no.layout_shape f is (other_shape form b c shapes.BadKeyId h same)
is_ill form view b c shapes.OutOfMemory f h is same = subst (λ (x : GetFault). Finds (read_as form c) view (Err x)) (sym is) forgoes

-- such answers are by the layout
number_of : {P : Type 0} (n : ℕ) (f : GetFault) → IsTrue (is_by_layout (Plain n)) → IsFaultOf n f → P → ToldFault P f
number_of n (Denied d) by is p = (p, subst (λ x. IsTrue (is_by_layout x)) (sym is) by)
number_of n (Load fault) by is p = tt
number_of n OutOfMemory by is p = tt

pub shape_told : {P : Type 0} (e : ShapeFault) (f : GetFault) → IsShapeAnswer e f → P → ToldFault P f
shape_told shapes.TooLong f is p = number_of no.layout_shape f refl is p
shape_told shapes.NotCanonical f is p = number_of no.layout_shape f refl is p
shape_told shapes.WrongShape f is p = number_of no.layout_shape f refl is p
shape_told shapes.WrongType f is p = number_of no.layout_shape f refl is p
shape_told shapes.BadKeyId f is p = number_of no.layout_shape f refl is p
shape_told {P} shapes.OutOfMemory f is p = subst (λ (x : GetFault). ToldFault P x) (sym is) tt

-- ---- what a layout says

pub layout_told : {P : Type 0} (e : LayoutFault) (f : GetFault) → IsLayoutAnswer e f → P → ToldFault P f
layout_told verdicts.LayoutThreshold f is p = number_of no.layout_threshold f refl is p
layout_told verdicts.LayoutExpired f is p = number_of no.layout_expired f refl is p
layout_told verdicts.StepThreshold f is p = number_of no.step_threshold f refl is p
layout_told verdicts.LinksDisagree f is p = number_of no.links_disagree f refl is p
layout_told verdicts.Disallowed f is p = number_of no.disallowed f refl is p
layout_told verdicts.Required f is p = number_of no.required f refl is p
layout_told verdicts.ProductMismatch f is p = number_of no.product_mismatch f refl is p
layout_told {P} verdicts.OutOfMemory f is p = subst (λ (x : GetFault). ToldFault P x) (sym is) tt

pub layout_finds : {X : Type 0} {m : Order (Unit {0})} {view : X → Unit {0}} (e : LayoutFault) (f : GetFault) → IsDeniedBy m e → IsLayoutAnswer e f → Finds m view (Err f)
layout_finds verdicts.LayoutThreshold f (inl none) is = absurd cc
layout_finds verdicts.LayoutThreshold f (inr h) is = as_fault no.layout_threshold f is h
layout_finds verdicts.LayoutExpired f (inl none) is = absurd cc
layout_finds verdicts.LayoutExpired f (inr h) is = as_fault no.layout_expired f is h
layout_finds verdicts.StepThreshold f (inl none) is = absurd cc
layout_finds verdicts.StepThreshold f (inr h) is = as_fault no.step_threshold f is h
layout_finds verdicts.LinksDisagree f (inl none) is = absurd cc
layout_finds verdicts.LinksDisagree f (inr h) is = as_fault no.links_disagree f is h
layout_finds verdicts.Disallowed f (inl none) is = absurd cc
layout_finds verdicts.Disallowed f (inr h) is = as_fault no.disallowed f is h
layout_finds verdicts.Required f (inl none) is = absurd cc
layout_finds verdicts.Required f (inr h) is = as_fault no.required f is h
layout_finds verdicts.ProductMismatch f (inl none) is = absurd cc
layout_finds verdicts.ProductMismatch f (inr h) is = as_fault no.product_mismatch f is h
layout_finds {m = m} {view = view} verdicts.OutOfMemory f h is = subst (λ (x : GetFault). Finds m view (Err x)) (sym is) forgoes

-- ---- loads

-- a load that fails finds nothing, and is no denial
pub load_finds : {A X : Type 0} {honest : Type 0} {Holds : Bytes → Bytes → Type 0} {H : Held} {m : Order A} {view : X → A} (digest : Bytes) (f : GetFault) (S : State)
    → IsLoaded honest Holds digest (Err f) → IsSome (length_at H.blobs digest) → honest → StandsFor H Holds S → Finds m view (Err f)
load_finds {Holds = Holds} digest (Load loads.Missing) S l there true_so stands = absurd (none_missing {Holds = Holds} digest S there stands (l true_so))
load_finds digest (Load loads.Database) S l there true_so stands = fails (λ e. absurd cc)
load_finds digest (Load loads.OutOfMemory) S l there true_so stands = fails (λ e. absurd cc)
load_finds digest (Denied d) S l there true_so stands = absurd l
load_finds digest OutOfMemory S l there true_so stands = absurd l

pub load_told : (P honest : Type 0) (Holds : Bytes → Bytes → Type 0) (digest : Bytes) (f : GetFault) → IsLoaded honest Holds digest (Err f) → ToldFault P f
load_told P honest Holds digest (Load fault) l = tt
load_told P honest Holds digest (Denied d) l = absurd l
load_told P honest Holds digest OutOfMemory l = tt

-- ---- each in turn

pub each_finds : {A B X Y : Type 0} (f : A → Order B) {view : X → B} {wide : Y → List B} (whole rest later : List A) (x : A) (done : List B) (e : GetFault) → rest ≡ x ∷ later
    → Follows f whole rest done → Finds (f x) view (Err e) → Finds (each f whole) wide (Err e)
each_finds f whole rest later x done e at follows (denies h) = denies (follows_ends f whole rest later x done _ at h follows)
each_finds f whole rest later x done e at follows (fails n) = fails n
each_finds f whole rest later x done e at follows forgoes = forgoes
