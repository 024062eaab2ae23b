-- Loose JSON value by value: what is found so far, and what is left.
use Rattle.std.proofs.Common.{◌≡◌, ◌⊎◌, inl, inr, ℕ, List, [], ◌∷◌, ◌++◌, ◌≤◌, length, Option, Some, None, option_map, option_and_then, String, Global, string_bytes, string_cmp, IsUtf8, refl, sym, subst, ap, ◌∙◌, append_assoc, append-nil, arith, rules}
use Rattle.std.proofs.lemmas.Str.{IsUtf8-had}
use Rattle.std.specs.List.{AllByRecursion}
use Rattle.std.specs.List.Sorted.{IsStrictlySortedBy}
use Rattle.std.specs.Map.{keys_of}
use Rattle.canonical_json.specs.Json.{Json, text, Items, no_items, item, Members, no_members, member, EachItem, EachMember, names}
use Rattle.canonical_json.specs.Spelling.{IsSound, IsProper, AreRising}
use Rattle.canonical_json.specs.View.{view, items_view, members_view}
use Rattle.canonical_json.specs.declared.Value.{Value, Text, the_lemmas}
use Rattle.serde_json.specs.declared.value.Value.{Value as LooseValue}
use Rattle.serde_json.specs.Data as loose
use Rattle.serde_json.specs.View.{view as loose_view, items_view as loose_items, members_view as loose_members}
use Rattle.loose_json.specs.declared.CanonFault.{CanonFault}
use Rattle.loose_json.specs.declared.CanonFault.TheVariants.{NotCanonical, OutOfMemory}
use Rattle.loose_json.specs.Canon.{plain, plain_items, plain_members, IsProperObject}

abbrev pub Entry : Type 0
Entry = String Global × LooseValue

abbrev pub Named : Type 0
Named = String Global × Value

option_map-option_map : {A B C : Type 0} (f : B → C) (g : A → B) (h : A → C) (o : Option A) → ((x : A) → f (g x) ≡ h x) → option_map f (option_map g o) ≡ option_map h o
option_map-option_map f g h None e = refl
option_map-option_map f g h (Some x) e = ap Some (e x)

-- ---- lists

abbrev pub items_after : Items → Items → Items
items_after no_items ws = ws
items_after (item v vs) ws = item v (items_after vs ws)

items_after-none : (vs : Items) → items_after vs no_items ≡ vs
items_after-none no_items = refl
items_after-none (item v vs) = ap (item v) (items_after-none vs)

items_after-push : (vs : List Value) (v : Value) (ws : Items) → items_after (items_view (vs ++ v ∷ [])) ws ≡ items_after (items_view vs) (item (view v) ws)
items_after-push [] v ws = refl
items_after-push (u ∷ vs) v ws = ap (item (view u)) (items_after-push vs v ws)

-- all of the list, by what is found and what is left of it
abbrev pub AllItems : List LooseValue → List Value → List LooseValue → Type 0
AllItems all found rest = plain_items (loose_items all) ≡ option_map (items_after (items_view found)) (plain_items (loose_items rest))

pub items_begin : (all : List LooseValue) → AllItems all [] all
items_begin all = by_option (plain_items (loose_items all))
  where
    by_option : (o : Option Items) → o ≡ option_map (items_after no_items) o
    by_option None = refl
    by_option (Some vs) = refl

item_found : (d : loose.Data) (ds : loose.Items) (v : Json) → plain d ≡ Some v → plain_items (loose.item d ds) ≡ option_map (item v) (plain_items ds)
item_found d ds v e = ap (option_and_then (λ w. option_map (item w) (plain_items ds))) e

pub items_next : (all rest later : List LooseValue) (x : LooseValue) (found more : List Value) (v : Value) → AllItems all found rest → rest ≡ x ∷ later → plain (loose_view x) ≡ Some (view v) → more ≡ found ++ v ∷ [] → AllItems all more later
items_next all rest later x found more v h is e m =
    h ∙ ap (λ xs. option_map (items_after (items_view found)) (plain_items (loose_items xs))) is
    ∙ ap (option_map (items_after (items_view found))) (item_found (loose_view x) (loose_items later) (view v) e)
    ∙ option_map-option_map (items_after (items_view found)) (item (view v)) (items_after (items_view (found ++ v ∷ []))) (plain_items (loose_items later)) (λ ws. sym (items_after-push found v ws))
    ∙ ap (λ vs. option_map (items_after (items_view vs)) (plain_items (loose_items later))) (sym m)

none_left : {A : Type 0} (xs : List A) → length xs ≡ 0 → xs ≡ []
none_left [] e = refl
none_left (x ∷ xs) e = absurd (omega arith)

pub items_end : (all rest : List LooseValue) (found : List Value) → AllItems all found rest → length rest ≡ 0 → plain_items (loose_items all) ≡ Some (items_view found)
items_end all rest found h e = h ∙ ap (λ xs. option_map (items_after (items_view found)) (plain_items (loose_items xs))) (none_left rest e) ∙ ap Some (items_after-none (items_view found))

pub items_none : (all rest later : List LooseValue) (x : LooseValue) (found : List Value) → AllItems all found rest → rest ≡ x ∷ later → plain (loose_view x) ≡ None → plain_items (loose_items all) ≡ None
items_none all rest later x found h is e =
    h ∙ ap (λ xs. option_map (items_after (items_view found)) (plain_items (loose_items xs))) is
    ∙ ap (λ o. option_map (items_after (items_view found)) (option_and_then (λ w. option_map (item w) (plain_items (loose_items later))) o)) e

pub items_sound : (found more : List Value) (v : Value) → EachItem IsSound (items_view found) → IsProper (view v) → more ≡ found ++ v ∷ [] → EachItem IsSound (items_view more)
items_sound found more v h p m = subst (λ vs. EachItem IsSound (items_view vs)) (sym m) (pushed found h)
  where
    pushed : (vs : List Value) → EachItem IsSound (items_view vs) → EachItem IsSound (items_view (vs ++ v ∷ []))
    pushed [] h = (p, tt)
    pushed (u ∷ vs) h = (h.0, pushed vs h.1)

-- ---- objects

abbrev pub members_after : Members → Members → Members
members_after no_members ws = ws
members_after (member n v vs) ws = member n v (members_after vs ws)

members_after-none : (vs : Members) → members_after vs no_members ≡ vs
members_after-none no_members = refl
members_after-none (member n v vs) = ap (member n v) (members_after-none vs)

members_after-push : (vs : List Named) (m : Named) (ws : Members) → members_after (members_view (vs ++ m ∷ [])) ws ≡ members_after (members_view vs) (member (string_bytes m.0) (view m.1) ws)
members_after-push [] m ws = refl
members_after-push (u ∷ vs) m ws = ap (member (string_bytes u.0) (view u.1)) (members_after-push vs m ws)

abbrev pub AllMembers : List Entry → List Named → List Entry → Type 0
AllMembers all found rest = plain_members (loose_members all) ≡ option_map (members_after (members_view found)) (plain_members (loose_members rest))

pub members_begin : (all : List Entry) → AllMembers all [] all
members_begin all = by_option (plain_members (loose_members all))
  where
    by_option : (o : Option Members) → o ≡ option_map (members_after no_members) o
    by_option None = refl
    by_option (Some vs) = refl

member_found : (n : List ℕ) (d : loose.Data) (ds : loose.Members) (v : Json) → plain d ≡ Some v → plain_members (loose.member n d ds) ≡ option_map (member n v) (plain_members ds)
member_found n d ds v e = ap (option_and_then (λ w. option_map (member n w) (plain_members ds))) e

pub members_next : (all rest later : List Entry) (x : Entry) (found more : List Named) (m : Named) → AllMembers all found rest → rest ≡ x ∷ later → plain (loose_view x.1) ≡ Some (view m.1)
    → string_bytes m.0 ≡ string_bytes x.0 → more ≡ found ++ m ∷ [] → AllMembers all more later
members_next all rest later x found more m h is e n f =
    h ∙ ap (λ xs. option_map (members_after (members_view found)) (plain_members (loose_members xs))) is
    ∙ ap (option_map (members_after (members_view found))) (member_found (string_bytes x.0) (loose_view x.1) (loose_members later) (view m.1) e)
    ∙ ap (λ k. option_map (members_after (members_view found)) (option_map (member k (view m.1)) (plain_members (loose_members later)))) (sym n)
    ∙ option_map-option_map (members_after (members_view found)) (member (string_bytes m.0) (view m.1)) (members_after (members_view (found ++ m ∷ []))) (plain_members (loose_members later))
    (λ ws. sym (members_after-push found m ws))
    ∙ ap (λ vs. option_map (members_after (members_view vs)) (plain_members (loose_members later))) (sym f)

pub members_end : (all rest : List Entry) (found : List Named) → AllMembers all found rest → rest ≡ [] → plain_members (loose_members all) ≡ Some (members_view found)
members_end all rest found h e = h ∙ ap (λ es. option_map (members_after (members_view found)) (plain_members (loose_members es))) e ∙ ap Some (members_after-none (members_view found))

pub members_none : (all rest later : List Entry) (x : Entry) (found : List Named) → AllMembers all found rest → rest ≡ x ∷ later → plain (loose_view x.1) ≡ None → plain_members (loose_members all) ≡ None
members_none all rest later x found h is e =
    h ∙ ap (λ xs. option_map (members_after (members_view found)) (plain_members (loose_members xs))) is
    ∙ ap (λ o. option_map (members_after (members_view found)) (option_and_then (λ w. option_map (member (string_bytes x.0) w) (plain_members (loose_members later))) o)) e

-- ---- names

abbrev pub key_bytes : List Entry → List (List ℕ)
key_bytes [] = []
key_bytes (e ∷ es) = string_bytes e.0 ∷ key_bytes es

names-push : (vs : List Named) (m : Named) → names (members_view (vs ++ m ∷ [])) ≡ names (members_view vs) ++ string_bytes m.0 ∷ []
names-push [] m = refl
names-push (u ∷ vs) m = ap (λ (ns : List (List ℕ)). string_bytes u.0 ∷ ns) (names-push vs m)

-- the names found and those left are all names
abbrev pub AllNames : List Entry → List Named → List Entry → Type 0
AllNames all found rest = names (members_view found) ++ key_bytes rest ≡ key_bytes all

pub names_next : (all rest later : List Entry) (x : Entry) (found more : List Named) (m : Named) → AllNames all found rest → rest ≡ x ∷ later → string_bytes m.0 ≡ string_bytes x.0 → more ≡ found ++ m ∷ [] → AllNames all more later
names_next all rest later x found more m h is n f =
    ap (λ vs. names (members_view vs) ++ key_bytes later) f ∙ ap (λ (ns : List (List ℕ)). ns ++ key_bytes later) (names-push found m)
    ∙ append_assoc (names (members_view found)) (string_bytes m.0 ∷ []) (key_bytes later) ∙ ap (λ (k : List ℕ). names (members_view found) ++ k ∷ key_bytes later) n
    ∙ ap (λ es. names (members_view found) ++ key_bytes es) (sym is) ∙ h

rising : (es : List Entry) → IsStrictlySortedBy string_cmp (keys_of es) → AreRising (key_bytes es)
unfolding IsStrictlySortedBy
rising [] h = tt
rising (e ∷ []) h = tt
rising (e ∷ f ∷ es) h = (h.0.0, rising (f ∷ es) h.1)

texts : (vs : List Named) → AllByRecursion IsUtf8 (names (members_view vs))
texts [] = tt
texts (m ∷ vs) = (IsUtf8-had (string_bytes m.0) m.0.ok, texts vs)

pub members_sound : (found more : List Named) (m : Named) → EachMember IsSound (members_view found) → IsProper (view m.1) → more ≡ found ++ m ∷ [] → EachMember IsSound (members_view more)
members_sound found more m h p f = subst (λ vs. EachMember IsSound (members_view vs)) (sym f) (pushed found h)
  where
    pushed : (vs : List Named) → EachMember IsSound (members_view vs) → EachMember IsSound (members_view (vs ++ m ∷ []))
    pushed [] h = (p, tt)
    pushed (u ∷ vs) h = (h.0, pushed vs h.1)

pub proper_object : (all rest : List Entry) (found : List Named) → IsStrictlySortedBy string_cmp (keys_of all) → rest ≡ [] → AllNames all found rest → EachMember IsSound (members_view found)
    → IsProperObject (members_view found)
proper_object all rest found sorted e named sound =
    let all_names = sym named ∙ ap (λ es. names (members_view found) ++ key_bytes es) e ∙ append-nil (names (members_view found)) in
    ((texts found, subst AreRising all_names (rising all sorted)), sound)

-- ---- texts

pub text_proper : (s : String Global) → IsProper (view (Text s))
text_proper s =
    let seen : view (Text s) ≡ text (string_bytes s) = search (rules, the_lemmas) in
    subst IsProper (sym seen) (IsUtf8-had (string_bytes s) s.ok)

-- ---- nesting

pub item_inside : (rest later all : List LooseValue) (x : LooseValue) → rest ≡ x ∷ later → loose.items_depth (loose_items rest) ≤ loose.items_depth (loose_items all)
    → (loose.depth (loose_view x) ≤ loose.items_depth (loose_items all)) × (loose.items_depth (loose_items later) ≤ loose.items_depth (loose_items all))
item_inside rest later all x is h = let e = ap (λ xs. loose.items_depth (loose_items xs)) is in (omega arith, omega arith)

pub member_inside : (rest later all : List Entry) (x : Entry) → rest ≡ x ∷ later → loose.members_depth (loose_members rest) ≤ loose.members_depth (loose_members all)
    → (loose.depth (loose_view x.1) ≤ loose.members_depth (loose_members all)) × (loose.members_depth (loose_members later) ≤ loose.members_depth (loose_members all))
member_inside rest later all x is h = let e = ap (λ xs. loose.members_depth (loose_members xs)) is in (omega arith, omega arith)

-- ---- faults

pub passed_on : {A B : Type 0} (e : CanonFault) (a : Option A) (b : Option B) → (a ≡ None → b ≡ None) → (e ≡ OutOfMemory) ⊎ ((e ≡ NotCanonical) × (a ≡ None)) → (e ≡ OutOfMemory) ⊎ ((e ≡ NotCanonical) × (b ≡ None))
passed_on e a b f (inl m) = inl m
passed_on e a b f (inr n) = inr (n.0, f n.1)
