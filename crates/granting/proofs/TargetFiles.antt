-- Which file a target is, line by line.
use Rattle.std.proofs.Common.{◌≡◌, ◌↔◌, ℕ, Bool, true, false, not, is_some, IsTrue, List, ◌∷◌, ◌∙◌, Option, Some, None, Result, Ok, Err, Bor, cond, ap, refl, subst, sym}
use Rattle.std.specs.Prelude.{option_map, IsNone, IsSome}
use Rattle.std.specs.Option.{option_copied}
use Rattle.document_parts.specs.Covers.{requires_layout}
use Rattle.document_parts.specs.Documents.{LayoutReference, Listing, Root, Snapshot}
use Rattle.metadata.specs.File.{Bytes, File}
use Rattle.denials.specs.Orders as orders
use Rattle.denials.specs.Orders.{Order, ◌>>=◌, ◌>>◌, pass, holds, given, each, judges, stopped}
use Rattle.path_patterns.specs.Grammar.{IsTargetPath}
use Rattle.delegations.specs.Rows.{Rows}
use Rattle.delegations.specs.Search.{Found, Shelf, shelf_of}
use Rattle.trust_rules.proofs.EachInTurn.{Follows, follows_ends}
use Rattle.trust_rules.proofs.OrderLines.{needed}
use Rattle.trusted_state.proofs.OrderSteps.{denied_behind, denied_in}
use Rattle.trust_rules.specs.Offers.{live_snapshot}
use Rattle.trust_rules.specs.Grants.{Listed, listed, HasNeeded, searched, supporting}
use Rattle.trust_rules.specs.Held.{Held, held_of}
use Rattle.trust_rules.specs.State.{Trusted, State}
use Rattle.granting.specs.steps.Permitting.{IsSupportOf, names_missing}
use Rattle.trusted_state.specs.Answers.{Gives, gives, denies, forgoes}
use Rattle.denials.specs.Views.{denial_view}
use Rattle.denials.specs.declared.denial.Denial.{Denial}
use Rattle.trusted_state.specs.declared.refusal.Refusal.{Refusal}
use Rattle.trusted_state.specs.declared.refusal.Refusal.TheVariants.{Denied, OutOfMemory}
use Rattle.denials.specs.declared.denial.Denial.TheVariants.{SupportDenied}

abbrev Stops : orders.Denial → Refusal → Type 0
Stops d r = Gives {A = Unit {0}} (orders.stop {A = Unit {0}} (orders.Denied d)) (λ u. u) (Err r)

-- a refusal that says a denial
pub says : (d : orders.Denial) (e : Denial) → d ≡ denial_view e → Stops d (Denied e)
says d e is = denies (subst (λ (x : orders.Denial). orders.stop {A = Unit {0}} (orders.Denied d) (Err (orders.Denied x))) is stopped)

-- and what an order ends in, by such a refusal
pub refused_as : {A X : Type 0} {m : Order A} {view : X → A} {d : orders.Denial} {r : Refusal} → m (Err (orders.Denied d)) → Stops d r → Gives m view (Err r)
refused_as h (denies stopped) = denies h
refused_as h forgoes = forgoes

-- what is given after a line that passes
pub gives_behind : {A B X : Type 0} {m : Order A} {f : A → Order B} {view : X → B} (a : A) {r : Result X Refusal} → m (Ok a) → Gives (f a) view r → Gives (m >>= f) view r
gives_behind a p (gives g) = gives (pass p g)
gives_behind a p (denies g) = denies (pass p g)
gives_behind a p forgoes = forgoes

-- what is borrowed from an option, seen through f
pub seen : {A X : Type 0} (f : A → X) (r : Option (Bor A)) (o : Option A) → option_copied r ≡ o → option_map (λ (b : Bor A). f b.now) r ≡ option_map f o
seen f (Some b) o e = ap (option_map f) e
seen f None o e = ap (option_map f) e

-- the lines up to the search, and the listing that it finds
pub denied_by_search : {X Y : Type 0} {view : X → Found} {wide : Y → Listed} (T : Trusted) (path : Bytes) (now : ℕ) (root : File Root) (snap : File Snapshot) {r : Refusal}
    → IsTargetPath path → T.root ≡ Some root → live_snapshot T.timestamp T.snapshot root now (Ok snap)
    → Gives (searched root.body (shelf_of root snap T.shelf) path now) view (Err r) → Gives (listed T path now) wide (Err r)
denied_by_search T path now root snap is there live h =
    denied_behind tt (holds is) (denied_behind root (needed _ _ root there) (denied_behind snap live (denied_in h)))

pub found_by_search : (T : Trusted) (path : Bytes) (now : ℕ) (root : File Root) (snap : File Snapshot) (found : Found)
    → IsTargetPath path → T.root ≡ Some root → live_snapshot T.timestamp T.snapshot root now (Ok snap)
    → searched root.body (shelf_of root snap T.shelf) path now (Ok found) → listed T path now (Ok (record { root = root.body; shelf = shelf_of root snap T.shelf; listing = found.listing }))
found_by_search T path now root snap found is there live h = pass (holds is) (pass (needed _ _ root there) (pass live (pass h given)))

-- a refusal of a file that a layout needs
by_name : {A Y : Type 0} {m : Order A} {wide : Y → A} (d : Denial) (r : Refusal) (x : orders.Denial) → denial_view d ≡ x → m (Err (orders.Denied x))
    → cond (names_missing x) (r ≡ Denied d) (r ≡ Denied SupportDenied) → Gives (supporting m) wide (Err r)
by_name {m = m} {wide = wide} d r (orders.Plain n) same h is = subst (λ (z : Refusal). Gives (supporting m) wide (Err z)) (sym is) (denies (judges h stopped))
by_name {m = m} {wide = wide} d r (orders.RoleMissing role version) same h is =
    subst (λ (z : Refusal). Gives (supporting m) wide (Err z)) (sym is) (denies (subst (λ (y : orders.Denial). supporting m (Err (orders.Denied y))) (sym same) (judges h stopped)))
by_name {m = m} {wide = wide} d r (orders.BlobMissing path digest len) same h is =
    subst (λ (z : Refusal). Gives (supporting m) wide (Err z)) (sym is) (denies (subst (λ (y : orders.Denial). supporting m (Err (orders.Denied y))) (sym same) (judges h stopped)))

pub supporting_denied : {A X Y : Type 0} {m : Order A} {view : X → A} {wide : Y → A} (e r : Refusal) → Gives m view (Err e) → IsSupportOf e r → Gives (supporting m) wide (Err r)
supporting_denied (Denied d) r (denies h) is = by_name d r (denial_view d) refl h is
supporting_denied {m = m} {wide = wide} OutOfMemory r h is = subst (λ (z : Refusal). Gives (supporting m) wide (Err z)) (sym is) forgoes

pub supporting_given : {A X : Type 0} {m : Order A} {view : X → A} (x : X) → Gives m view (Ok x) → Gives (supporting m) view (Ok x)
supporting_given x (gives h) = gives (judges h given)

as_many : {A B : Type 0} (f : A → B) (o : Option A) → is_some (option_map f o) ≡ is_some o
as_many f None = refl
as_many f (Some a) = refl

pub no_layout_tells : {A B : Type 0} (f : A → B) (o : Option A) (b : Bool) → is_some o ≡ not b → IsTrue b ↔ IsNone (option_map f o)
no_layout_tells f o true e = ((λ t. as_many f o ∙ e), (λ n. refl))
no_layout_tells f o false e = ((λ t. absurd (cc)), (λ n. let both : true ≡ false = sym (as_many f o ∙ e) ∙ n in absurd (cc)))

-- one of several is refused
pub each_denied : {A B X Y : Type 0} (f : A → Order B) {view : X → B} {wide : Y → List B} (whole rest later : List A) (x : A) (done : List B) {r : Refusal} → rest ≡ x ∷ later
    → Follows f whole rest done → Gives (f x) view (Err r) → Gives (each f whole) wide (Err r)
each_denied f whole rest later x done at follows (denies h) = denies (follows_ends f whole rest later x done _ at h follows)
each_denied f whole rest later x done at follows forgoes = forgoes

-- what is listed is so of each state that has what is held
pub refuses_at : {H : Held} {X : Type 0} {path : Bytes} {now : ℕ} {view : X → Listed} {r : Refusal} (S : State) → held_of S ≡ H
    → Gives (listed H.trusted path now) view (Err r) → Gives (listed S.trusted path now) view (Err r)
refuses_at {path = path} {now = now} {view = view} {r = r} S is h = subst (λ (K : Held). Gives (listed K.trusted path now) view (Err r)) (sym is) h

pub lists_at : {H : Held} {path : Bytes} {now : ℕ} {at : Listed} (S : State) → held_of S ≡ H → listed H.trusted path now (Ok at) → listed S.trusted path now (Ok at)
lists_at {path = path} {now = now} {at = at} S is h = subst (λ (K : Held). listed K.trusted path now (Ok at)) (sym is) h

pub some_layout : {A B : Type 0} (f : A → B) (o : Option A) → IsSome o → IsSome (option_map f o)
some_layout f (Some a) h = refl
some_layout f None h = h

pub no_layout_there : {A : Type 0} (o : Option A) → (IsSome o → ⊥) → IsNone o
no_layout_there (Some a) h = absurd (h refl)
no_layout_there None h = refl

-- what is no path of a target is listed nowhere
pub no_path : (T : Trusted) {path : Bytes} {now : ℕ} {at : Listed} → (IsTargetPath path → ⊥) → listed T path now (Ok at) → ⊥
no_path T none (pass (holds is) h) = none is

-- whether a listing has the layout that is required
there_tells : {A B : Type 0} (f : A → B) (o : Option A) (b : Bool) → b ≡ is_some o → IsTrue b ↔ IsSome (option_map f o)
there_tells f o b e = ((λ t. as_many f o ∙ (sym e ∙ t)), (λ s. e ∙ (sym (as_many f o) ∙ s)))

pub needed_tells : {A : Type 0} (root : Root) (path : Bytes) (l : Listing) (f : A → LayoutReference) (o : Option A) (b : Bool) → l.layout ≡ option_map f o
    → requires_layout root path ≡ true → b ≡ is_some o → IsTrue b ↔ HasNeeded root path l
needed_tells root path l f o b same needs e =
    let t = there_tells f o b e in
    ((λ h _. subst (λ (x : Option LayoutReference). IsSome x) (sym same) (t.0 h)), (λ h. t.1 (subst (λ (x : Option LayoutReference). IsSome x) same (h needs))))

pub nothing_needed : (root : Root) (path : Bytes) (l : Listing) → requires_layout root path ≡ false → IsTrue true ↔ HasNeeded root path l
nothing_needed root path l none = ((λ h needs. let e : false ≡ true = sym none ∙ needs in absurd (cc)), (λ h. refl))

-- a shelf stands under the root and the snapshot that are trusted
pub record IsOver (T : Trusted) (root : File Root) (snap : File Snapshot) (V : Shelf) : Type 0 where
  pub root_is : T.root ≡ Some root
  pub snapshot_is : T.snapshot ≡ Some snap
  pub shelf_is : V ≡ shelf_of root snap T.shelf

pub over : {P T : Trusted} {root : File Root} {snap : File Snapshot} {V : Shelf} {rows : Rows} → P ≡ T → P.root ≡ Some root → P.snapshot ≡ Some snap
    → V ≡ shelf_of root snap rows → rows ≡ P.shelf → IsOver T root snap V
over {P} {T} {root} {snap} same root_is snapshot_is shelf_is rows = record {
  root_is = ap (λ (Q : Trusted). Q.root) (sym same) ∙ root_is;
  snapshot_is = ap (λ (Q : Trusted). Q.snapshot) (sym same) ∙ snapshot_is;
  shelf_is = shelf_is ∙ ap (λ (r : Rows). shelf_of root snap r) (rows ∙ ap (λ (Q : Trusted). Q.shelf) same);
}
