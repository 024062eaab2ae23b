-- The first fault along marks that stand one behind the other.
use Rattle.std.proofs.Common.{◌≡◌, ℕ, ◌<◌, ◌≤◌, Bool, true, false, cond, List, [], ◌∷◌, ◌++◌, refl, sym, subst, ◌∙◌, ap, arith, String, string_bytes}
use Rattle.std.specs.Prelude.{Option, Some, None, nat_lt}
use Rattle.std.specs.List.{filter_map, cons_option}
use Rattle.std.proofs.lemmas.Bool.{ltb-true, ltb-false}
use Rattle.std.proofs.lemmas.Str.{IsUtf8-had}
use Rattle.std.specs.declared.alloc.Global.{Global}
use Rattle.canonical_json.specs.Json.{Json, null, boolean, integer, text, array, object, Items, no_items, item, Members, no_members, member, Everywhere, EachItem, EachMember}
use Rattle.canonical_json.specs.Spelling.{IsOfCode, MembersOfCode, IsTextual, IntegerFits, IsCanonical, spelling}
use Rattle.canonical_json.proofs.WriteLaw.{written_is_allowed}
use Rattle.canonical_json.specs.Faults.{Mark, opening, name_mark, marks, item_marks, member_marks, mark_fault, first_of_list, first_fault, write_fault}
use Rattle.canonical_json.specs.View.{view, items_view, members_view}
use Rattle.canonical_json.specs.declared.Value.{Value}
use Rattle.canonical_json.specs.declared.WriteFault.{WriteFault}
use Rattle.canonical_json.specs.declared.WriteFault.TheVariants as write_faults

abbrev or_else : Option WriteFault → Option WriteFault → Option WriteFault
or_else None o = o
or_else (Some e) o = Some e

first_fault-append : (xs ys : List Mark) → first_fault (xs ++ ys) ≡ or_else (first_fault xs) (first_fault ys)
first_fault-append [] ys = refl
first_fault-append (m ∷ xs) ys = of_fault (mark_fault m) (first_fault-append xs ys)
  where
    of_fault : (o : Option WriteFault) → first_fault (xs ++ ys) ≡ or_else (first_fault xs) (first_fault ys)
        → first_of_list (cons_option o (filter_map mark_fault (xs ++ ys))) ≡ or_else (first_of_list (cons_option o (filter_map mark_fault xs))) (first_fault ys)
    of_fault None h = h
    of_fault (Some e) h = refl

pub stops_first : (xs ys : List Mark) (e : WriteFault) → first_fault xs ≡ Some e → first_fault (xs ++ ys) ≡ Some e
stops_first xs ys e h = first_fault-append xs ys ∙ ap (λ o. or_else o (first_fault ys)) h

pub goes_on : (xs ys : List Mark) → first_fault xs ≡ None → first_fault (xs ++ ys) ≡ first_fault ys
goes_on xs ys h = first_fault-append xs ys ∙ ap (λ o. or_else o (first_fault ys)) h

pub too_deep : (outer : ℕ) (ms : List Mark) → 32 ≤ outer → first_fault (opening outer ∷ ms) ≡ Some write_faults.TooDeep
too_deep outer ms h = of_test (nat_lt outer 32) refl
  where
    of_test : (b : Bool) → nat_lt outer 32 ≡ b → first_of_list (cons_option (cond b None (Some write_faults.TooDeep)) (filter_map mark_fault ms)) ≡ Some write_faults.TooDeep
    of_test true e = let g = ltb-true outer 32 e in absurd (omega arith)
    of_test false e = refl

pub opens : (outer : ℕ) (ms : List Mark) → outer < 32 → first_fault (opening outer ∷ ms) ≡ first_fault ms
opens outer ms h = of_test (nat_lt outer 32) refl
  where
    of_test : (b : Bool) → nat_lt outer 32 ≡ b → first_of_list (cons_option (cond b None (Some write_faults.TooDeep)) (filter_map mark_fault ms)) ≡ first_fault ms
    of_test true e = refl
    of_test false e = let g = ltb-false outer 32 e in absurd (omega arith)

-- a value of a list, and what follows it
pub item_first : (outer : ℕ) (vs ws : List Value) (v : Value) (e : WriteFault) → vs ≡ v ∷ ws → first_fault (marks outer (view v)) ≡ Some e → first_fault (item_marks outer (items_view vs)) ≡ Some e
item_first outer vs ws v e is h = ap (λ xs. first_fault (item_marks outer (items_view xs))) is ∙ stops_first (marks outer (view v)) (item_marks outer (items_view ws)) e h

pub item_next : (outer : ℕ) (vs ws : List Value) (v : Value) → vs ≡ v ∷ ws → first_fault (marks outer (view v)) ≡ None → first_fault (item_marks outer (items_view vs)) ≡ first_fault (item_marks outer (items_view ws))
item_next outer vs ws v is h = ap (λ xs. first_fault (item_marks outer (items_view xs))) is ∙ goes_on (marks outer (view v)) (item_marks outer (items_view ws)) h

pub item_of_code : (vs ws : List Value) (v : Value) → vs ≡ v ∷ ws → Everywhere IsOfCode (view v) → EachItem IsOfCode (items_view ws) → EachItem IsOfCode (items_view vs)
item_of_code vs ws v is h hs = subst (λ xs. EachItem IsOfCode (items_view xs)) (sym is) (h, hs)

pub member_of_code : (vs ws : List (String Global × Value)) (m : String Global × Value) → vs ≡ m ∷ ws → Everywhere IsOfCode (view m.1) → MembersOfCode (members_view ws) → MembersOfCode (members_view vs)
member_of_code vs ws m is h hs = subst (λ xs. MembersOfCode (members_view xs)) (sym is) ((IsUtf8-had (string_bytes m.0) m.0.ok, hs.0), (h, hs.1))

-- a member of an object: its name, its value and what follows it
pub name_first : (outer : ℕ) (before : Option (List ℕ)) (vs ws : List (String Global × Value)) (m : String Global × Value) (e : WriteFault) → vs ≡ m ∷ ws
    → first_fault (name_mark before (string_bytes m.0)) ≡ Some e → first_fault (member_marks outer before (members_view vs)) ≡ Some e
name_first outer before vs ws m e is h =
    ap (λ xs. first_fault (member_marks outer before (members_view xs))) is
    ∙ stops_first (name_mark before (string_bytes m.0)) (marks outer (view m.1) ++ member_marks outer (Some (string_bytes m.0)) (members_view ws)) e h

name_passed : (outer : ℕ) (before : Option (List ℕ)) (vs ws : List (String Global × Value)) (m : String Global × Value) → vs ≡ m ∷ ws → first_fault (name_mark before (string_bytes m.0)) ≡ None
    → first_fault (member_marks outer before (members_view vs)) ≡ first_fault (marks outer (view m.1) ++ member_marks outer (Some (string_bytes m.0)) (members_view ws))
name_passed outer before vs ws m is h =
    ap (λ xs. first_fault (member_marks outer before (members_view xs))) is
    ∙ goes_on (name_mark before (string_bytes m.0)) (marks outer (view m.1) ++ member_marks outer (Some (string_bytes m.0)) (members_view ws)) h

pub member_first : (outer : ℕ) (before : Option (List ℕ)) (vs ws : List (String Global × Value)) (m : String Global × Value) (e : WriteFault) → vs ≡ m ∷ ws
    → first_fault (name_mark before (string_bytes m.0)) ≡ None → first_fault (marks outer (view m.1)) ≡ Some e → first_fault (member_marks outer before (members_view vs)) ≡ Some e
member_first outer before vs ws m e is named h =
    name_passed outer before vs ws m is named ∙ stops_first (marks outer (view m.1)) (member_marks outer (Some (string_bytes m.0)) (members_view ws)) e h

pub member_next : (outer : ℕ) (before : Option (List ℕ)) (vs ws : List (String Global × Value)) (m : String Global × Value) → vs ≡ m ∷ ws
    → first_fault (name_mark before (string_bytes m.0)) ≡ None → first_fault (marks outer (view m.1)) ≡ None
    → first_fault (member_marks outer before (members_view vs)) ≡ first_fault (member_marks outer (Some (string_bytes m.0)) (members_view ws))
member_next outer before vs ws m is named h =
    name_passed outer before vs ws m is named ∙ goes_on (marks outer (view m.1)) (member_marks outer (Some (string_bytes m.0)) (members_view ws)) h

-- ---- what a value of the code has, apart

mutual
  pub textual : (v : Json) → Everywhere IsOfCode v → Everywhere IsTextual v
  textual null h = tt
  textual (boolean b) h = tt
  textual (integer z) h = tt
  textual (text t) h = h.0
  textual (array vs) h = (tt, items_textual vs h.1)
  textual (object ms) h = (h.0.0, members_textual ms h.1)

  items_textual : (vs : Items) → EachItem IsOfCode vs → EachItem IsTextual vs
  items_textual no_items h = tt
  items_textual (item v vs) h = (textual v h.0, items_textual vs h.1)

  members_textual : (ms : Members) → EachMember IsOfCode ms → EachMember IsTextual ms
  members_textual no_members h = tt
  members_textual (member n v ms) h = (textual v h.0, members_textual ms h.1)

mutual
  pub integers_fit : (v : Json) → Everywhere IsOfCode v → Everywhere IntegerFits v
  integers_fit null h = tt
  integers_fit (boolean b) h = tt
  integers_fit (integer z) h = h.1
  integers_fit (text t) h = tt
  integers_fit (array vs) h = (tt, items_fit vs h.1)
  integers_fit (object ms) h = (tt, members_fit ms h.1)

  items_fit : (vs : Items) → EachItem IsOfCode vs → EachItem IntegerFits vs
  items_fit no_items h = tt
  items_fit (item v vs) h = (integers_fit v h.0, items_fit vs h.1)

  members_fit : (ms : Members) → EachMember IsOfCode ms → EachMember IntegerFits ms
  members_fit no_members h = tt
  members_fit (member n v ms) h = (integers_fit v h.0, members_fit ms h.1)

-- a value of the code in which no fault was found has a canonical text
pub canonical_when_clear : (v : Json) → Everywhere IsOfCode v → write_fault v ≡ None → IsCanonical v (spelling v)
canonical_when_clear v h none = record { allowed = written_is_allowed v (textual v h) (integers_fit v h) none; spelled = refl }
