-- What begins the text of a value within the limits goes on to such a text in a few bytes.
use Rattle.std.proofs.Common.{◌≡◌, ℕ, zero, suc, ◌+◌, ◌*◌, ◌<◌, ◌≤◌, ◌⊎◌, inl, inr, ℤ, List, [], ◌∷◌, ◌++◌, true, false, Option, Some, None, length, flat_map, refl, sym, subst, ap, ◌∙◌, append_assoc, append-nil, arith, IsUtf8, length-append}
use Rattle.std.proofs.lemmas.Bool.{cases_lt}
use Rattle.canonical_json.specs.Json.{Json, null, boolean, integer, text, array, object, Items, no_items, item, Members, no_members, member, names}
use Rattle.canonical_json.specs.Spelling.{byte_spelling, spelling, IsBefore}
use Rattle.canonical_json.specs.steps.Texts.{closed_text}
use Rattle.canonical_json.proofs.Forms.{shorter_begins, items_tail, items_text, items_text_is, members_tail, members_text, members_text_is, member_text, text_closed_is, member_closed_is, full_tail, full_members_tail, member_front, member_front_is, Good, GoodItems, IsFull, HasMembers, GoodMembers, RisingBehind, rising_first, rising_more}
use Rattle.canonical_json.proofs.TextEndings.{Bytes, bytes_append, bytes_behind, spelled_length, cut_text, cut_stands_behind, by_closing, integer_bytes, integer_length}

-- so many bytes are enough behind most bytes
abbrev pub enough : ℕ → ℕ → ℕ
enough most levels = 8 * most + 40 + levels

-- a few bytes with which the bytes are the text of some value
pub record Ending {A : Type 0} (P : A → Type 0) (spelled : A → List ℕ) (enough : ℕ) (xs : List ℕ) : Type 0 where
  pub whole : A
  pub more : List ℕ
  pub holds : P whole
  pub spells : xs ++ more ≡ spelled whole
  pub few : length more ≤ enough
  pub bytes : Bytes more

-- the bytes themselves go on to a short text
as_it_is : {A : Type 0} (P : A → Type 0) (spelled : A → List ℕ) (enough : ℕ) (v : A) (xs more : List ℕ) → P v → xs ++ more ≡ spelled v → length (spelled v) ≤ enough → Bytes (spelled v) → Ending P spelled enough xs
as_it_is P spelled enough v xs more p e l b =
    let count = ap length e in
    let both = length-append xs more in
    record { whole = v; more = more; holds = p; spells = e; few = omega arith; bytes = bytes_behind xs more (subst Bytes (sym e) b) }

-- with one more byte it is the text of what it is inside
ended : {A B : Type 0} (P : A → Type 0) (Q : B → Type 0) (spelled : A → List ℕ) (whole : B → List ℕ) (f : A → B) (few : ℕ) (pre post xs : List ℕ) → ((v : A) → P v → Q (f v))
    → ((v : A) → P v → whole (f v) ≡ pre ++ (spelled v ++ post)) → Bytes post → length post ≤ 1 → Ending P spelled few xs → Ending Q whole (suc few) (pre ++ xs)
ended P Q spelled whole f few pre post xs keeps is bytes one r =
    let both = length-append r.more post in
    let few = r.few in
    record {
      whole = f r.whole;
      more = r.more ++ post;
      holds = keeps r.whole r.holds;
      spells = append_assoc pre xs (r.more ++ post)
          ∙ ap (λ (zs : List ℕ). pre ++ zs) (sym (append_assoc xs r.more post) ∙ ap (λ (zs : List ℕ). zs ++ post) r.spells)
          ∙ sym (is r.whole r.holds);
      few = omega arith;
      bytes = bytes_append r.more post r.bytes bytes;
    }

-- either the bytes end within the first part, or they go on behind it
by_part : (part rest xs more : List ℕ) → xs ++ more ≡ part ++ rest → ((ys : List ℕ) × (xs ++ ys ≡ part)) ⊎ ((ys : List ℕ) × (xs ≡ part ++ ys) × (ys ++ more ≡ rest))
by_part part rest xs more e =
    elim (cases_lt (length part) (length xs)) as (λ d. ((ys : List ℕ) × (xs ++ ys ≡ part)) ⊎ ((ys : List ℕ) × (xs ≡ part ++ ys) × (ys ++ more ≡ rest))) [
      | inl h ↦ let b = shorter_begins part xs rest more (sym e) (omega arith) in inr (b.0, b.1, sym b.2)
      | inr h ↦ let b = shorter_begins xs part more rest e h in inl (b.0, sym b.1)
    ]

-- behind the first byte
head_tail : (x b : ℕ) (xs ys : List ℕ) → x ∷ xs ≡ b ∷ ys → (x ≡ b) × (xs ≡ ys)
head_tail x b xs ys e = (cc, cc)

nothing_behind : (xs ys : List ℕ) → [] ≡ xs ++ ys → ys ≡ []
nothing_behind [] ys e = sym e
nothing_behind (x ∷ xs) ys e = cc

-- ---- one value

abbrev ValueEnding : ℕ → ℕ → List ℕ → Type 0
ValueEnding most levels xs = Ending (Good true levels) spelling (enough most levels) xs

abbrev EndsSoon : Json → Type 0
EndsSoon v = (levels most : ℕ) (xs more : List ℕ) → Good true levels v → length xs ≤ most → xs ++ more ≡ spelling v → ValueEnding most levels xs

null_bytes : Bytes (spelling null)
null_bytes = (omega arith, (omega arith, (omega arith, (omega arith, tt))))

short_ends : (v : Json) → length (spelling v) ≤ 21 → Bytes (spelling v) → EndsSoon v
short_ends v l b levels most xs more g h e = as_it_is (Good true levels) spelling (enough most levels) v xs more g e (omega arith) b

text_ends : (t : List ℕ) → EndsSoon (text t)
text_ends t levels most xs more g l e =
    elim (by_closing t [] xs more (e ∙ sym (append-nil (spelling (text t))) ∙ text_closed_is t [])) as (λ d. ValueEnding most levels xs) [
      | inl r ↦
          let none = nothing_behind r.0 more r.2 in
          record { whole = text t; more = more; holds = g; spells = e; few = (let count = ap length none in omega arith); bytes = subst Bytes (sym none) tt }
      | inr r ↦
          let c = cut_text most t xs r.0 g.0 l r.1 in
          let few = c.few in
          let both = length-append c.more (34 ∷ []) in
          record {
            whole = text c.front;
            more = c.more ++ 34 ∷ [];
            holds = (c.utf8, (λ l. tt), omega arith);
            spells = sym (append_assoc xs c.more (34 ∷ [])) ∙ ap (λ (zs : List ℕ). zs ++ 34 ∷ []) c.spells;
            few = omega arith;
            bytes = bytes_append c.more (34 ∷ []) c.bytes (omega arith, tt);
          }
    ]

integer_ends : (z : ℤ) → EndsSoon (integer z)
integer_ends z levels most xs more g l e = short_ends (integer z) (integer_length z (g.1 refl)) (integer_bytes z) levels most xs more g l e

-- ---- lists

abbrev ItemsEnding : ℕ → ℕ → List ℕ → Type 0
ItemsEnding most levels xs = Ending (λ vs. GoodItems true levels vs × IsFull vs) items_text (suc (enough most levels)) xs

abbrev TailEnding : ℕ → ℕ → List ℕ → Type 0
TailEnding most levels xs = Ending (GoodItems true levels) items_tail (suc (enough most levels)) xs

abbrev TailEnds : Items → Type 0
TailEnds vs = (levels most : ℕ) (xs more : List ℕ) → GoodItems true levels vs → length xs ≤ most → xs ++ more ≡ items_tail vs → TailEnding most levels xs

bracket : (b : ℕ) → b < 256 → Bytes (b ∷ [])
bracket b h = (h, tt)

-- the bytes end within the first value, or go on behind it
first_ends : (v : Json) (vs : Items) → EndsSoon v → TailEnds vs → (levels most : ℕ) (xs more : List ℕ) → GoodItems true levels (item v vs) → length xs ≤ most → xs ++ more ≡ items_text (item v vs)
    → ItemsEnding most levels xs
first_ends v vs one tail levels most xs more g l e =
    let first : Good true levels v = (g.0.0, (λ t. (g.1 t).0), (let d = g.2 in omega arith)) in
    let later : GoodItems true levels vs = (g.0.1, (λ t. (g.1 t).1), (let d = g.2 in omega arith)) in
    elim (by_part (spelling v) (items_tail vs) xs more e) as (λ d. ItemsEnding most levels xs) [
      | inl r ↦
          ended (Good true levels) (λ ws. GoodItems true levels ws × IsFull ws) spelling items_text (λ w. item w no_items) (enough most levels) [] (93 ∷ []) xs
          (λ w h. (((h.0, tt), (λ t. (h.1 t, tt)), (let d = h.2 in omega arith)), tt)) (λ w h. refl) (bracket 93 (omega arith)) (omega arith)
          (one levels most xs r.0 first l r.1)
      | inr r ↦
          let both = length-append (spelling v) r.0 in
          let count = ap length r.1 in
          let t = tail levels most r.0 more later (omega arith) r.2 in
          record {
            whole = item v t.whole;
            more = t.more;
            holds = (((first.0, t.holds.0), (λ e. (first.1 e, t.holds.1 e)), (let d = first.2 in let ds = t.holds.2 in omega arith)), tt);
            spells = ap (λ (zs : List ℕ). zs ++ t.more) r.1 ∙ append_assoc (spelling v) r.0 t.more ∙ ap (λ (zs : List ℕ). spelling v ++ zs) t.spells;
            few = t.few;
            bytes = t.bytes;
          }
    ]

no_more_items : (levels most : ℕ) → TailEnding most levels []
no_more_items levels most = record { whole = no_items; more = 93 ∷ []; holds = (tt, (λ t. tt), omega arith); spells = refl; few = omega arith; bytes = bracket 93 (omega arith) }

closing_ends : TailEnds no_items
closing_ends levels most xs more g l e = as_it_is (GoodItems true levels) items_tail (suc (enough most levels)) no_items xs more g e (omega arith) (bracket 93 (omega arith))

tail_ends : (v : Json) (vs : Items) → EndsSoon v → TailEnds vs → TailEnds (item v vs)
tail_ends v vs one tail levels most [] more g l e = no_more_items levels most
tail_ends v vs one tail levels most (x ∷ xs) more g l e =
    let p = head_tail x 44 (xs ++ more) (items_text (item v vs)) e in
    let r = first_ends v vs one tail levels most xs more g (omega arith) p.1 in
    record {
      whole = r.whole;
      more = r.more;
      holds = r.holds.0;
      spells = ap (λ (b : ℕ). b ∷ (xs ++ r.more)) p.0 ∙ ap (λ (zs : List ℕ). 44 ∷ zs) r.spells ∙ sym (full_tail r.whole r.holds.1);
      few = r.few;
      bytes = r.bytes;
    }

empty_ends : (levels most : ℕ) → ValueEnding most levels []
empty_ends levels most = record { whole = null; more = spelling null; holds = (tt, (λ t. tt), omega arith); spells = refl; few = omega arith; bytes = null_bytes }

list_ends : (v : Json) (vs : Items) → EndsSoon v → TailEnds vs → EndsSoon (array (item v vs))
list_ends v vs one tail zero most xs more g l e = absurd (let d = g.2 in omega arith)
list_ends v vs one tail (suc levels) most [] more g l e = empty_ends (suc levels) most
list_ends v vs one tail (suc levels) most (x ∷ xs) more g l e =
    let p = head_tail x 91 (xs ++ more) (items_text (item v vs)) (e ∙ ap (λ (zs : List ℕ). 91 ∷ zs) (items_text_is (item v vs))) in
    let r = first_ends v vs one tail levels most xs more (g.0.1, (λ t. (g.1 t).1), (let d = g.2 in omega arith)) (omega arith) p.1 in
    let k = r.holds.0 in
    let few = r.few in
    record {
      whole = array r.whole;
      more = r.more;
      holds = ((tt, k.0), (λ t. (tt, k.1 t)), (let d = k.2 in omega arith));
      spells = ap (λ (b : ℕ). b ∷ (xs ++ r.more)) p.0 ∙ ap (λ (zs : List ℕ). 91 ∷ zs) (r.spells ∙ sym (items_text_is r.whole));
      few = omega arith;
      bytes = r.bytes;
    }

-- ---- objects

abbrev MembersEnding : ℕ → ℕ → Option (List ℕ) → List ℕ → Type 0
MembersEnding most levels before xs = Ending (λ ms. GoodMembers true levels before ms × HasMembers ms) members_text (suc (enough most levels)) xs

abbrev MembersTailEnding : ℕ → ℕ → List ℕ → List ℕ → Type 0
MembersTailEnding most levels before xs = Ending (GoodMembers true levels (Some before)) members_tail (suc (enough most levels)) xs

abbrev MembersTailEnds : Members → Type 0
MembersTailEnds ms =
    (levels most : ℕ) (before xs more : List ℕ) → GoodMembers true levels (Some before) ms → length before ≤ most → length xs ≤ most → xs ++ more ≡ members_tail ms → MembersTailEnding most levels before xs

-- the name before is no longer
abbrev NoLonger : Option (List ℕ) → ℕ → Type 0
NoLonger None most = Unit {0}
NoLonger (Some m) most = length m ≤ most

cut_rises : (before : Option (List ℕ)) (most : ℕ) (k front behind : List ℕ) (ns : List (List ℕ)) → NoLonger before most → k ≡ front ++ behind → (most < length front) ⊎ (behind ≡ [])
    → RisingBehind before (k ∷ ns) → RisingBehind before (front ∷ [])
cut_rises None most k front behind ns l e long h = tt
cut_rises (Some m) most k front behind ns l e long h =
    let longer : (length m < length front) ⊎ (behind ≡ []) =
    elim long as (λ d. (length m < length front) ⊎ (behind ≡ [])) [ inl f ↦ inl (omega arith) | inr f ↦ inr f ] in
    (cut_stands_behind m front behind longer (subst (IsBefore m) e h.0), tt)

one_member : (levels : ℕ) (before : Option (List ℕ)) (k : List ℕ) (v : Json) → IsUtf8 k → RisingBehind before (k ∷ []) → Good true levels v → GoodMembers true levels before (member k v no_members)
one_member levels before k v u h g = ((g.0, tt), (λ t. (g.1 t, tt)), (let d = g.2 in omega arith), (u, tt), h)

null_good : (levels : ℕ) → Good true levels null
null_good levels = (tt, (λ t. tt), omega arith)

module _ (k : List ℕ) (v : Json) (ms : Members) (one : EndsSoon v) (tail : MembersTailEnds ms) (levels most : ℕ) (before : Option (List ℕ)) (g : GoodMembers true levels before (member k v ms)) (near : NoLonger before most) where
  -- the bytes end within the name
  name_ends : (xs ys : List ℕ) → length xs ≤ most → xs ++ ys ≡ 34 ∷ flat_map byte_spelling k → MembersEnding most levels before xs
  name_ends xs ys l e =
      let c = cut_text most k xs ys g.3.0 l e in
      let few = c.few in
      let both = length-append c.more (34 ∷ 58 ∷ (spelling null ++ 125 ∷ [])) in
      record {
        whole = member c.front null no_members;
        more = c.more ++ 34 ∷ 58 ∷ (spelling null ++ 125 ∷ []);
        holds = (one_member levels before c.front null c.utf8 (cut_rises before most k c.front c.behind (names ms) near c.splits c.long g.4) (null_good levels), tt);
        spells = sym (append_assoc xs c.more (34 ∷ 58 ∷ (spelling null ++ 125 ∷ [])))
            ∙ ap (λ (zs : List ℕ). zs ++ 34 ∷ 58 ∷ (spelling null ++ 125 ∷ [])) c.spells
            ∙ sym (member_closed_is c.front null (125 ∷ []));
        few = omega arith;
        bytes = bytes_append c.more (34 ∷ 58 ∷ (spelling null ++ 125 ∷ [])) c.bytes
            (omega arith, (omega arith, bytes_append (spelling null) (125 ∷ []) null_bytes (bracket 125 (omega arith))));
      }

  alone : RisingBehind before (k ∷ [])
  alone = rising_more before k [] (rising_first before k (names ms) g.4).0 tt

  -- behind it
  name_ended : MembersEnding most levels before (34 ∷ closed_text k [])
  name_ended =
      record {
        whole = member k null no_members;
        more = 58 ∷ (spelling null ++ 125 ∷ []);
        holds = (one_member levels before k null g.3.0 alone (null_good levels), tt);
        spells = ap (λ (zs : List ℕ). 34 ∷ zs) (append_assoc (flat_map byte_spelling k) (34 ∷ []) (58 ∷ (spelling null ++ 125 ∷ []))) ∙ sym (member_closed_is k null (125 ∷ []));
        few = omega arith;
        bytes = (omega arith, bytes_append (spelling null) (125 ∷ []) null_bytes (bracket 125 (omega arith)));
      }

  -- within its value
  member_value_ends : (xs ys : List ℕ) → length xs ≤ most → xs ++ ys ≡ spelling v → MembersEnding most levels before (member_front k ++ xs)
  member_value_ends xs ys l e =
      ended (Good true levels) (λ ns. GoodMembers true levels before ns × HasMembers ns) spelling members_text (λ w. member k w no_members) (enough most levels) (member_front k) (125 ∷ []) xs
      (λ w h. (one_member levels before k w g.3.0 alone h, tt))
      (λ w h. member_closed_is k w (125 ∷ []) ∙ sym (member_front_is k (spelling w ++ 125 ∷ [])))
      (bracket 125 (omega arith)) (omega arith)
      (one levels most xs ys (g.0.0, (λ t. (g.1 t).0), (let d = g.2 in omega arith)) l e)

  -- or behind its value
  member_rest_ends : (xs more : List ℕ) → length k ≤ most → length xs ≤ most → xs ++ more ≡ members_tail ms → MembersEnding most levels before (member_text k v ++ xs)
  member_rest_ends xs more m l e =
      let order = rising_first before k (names ms) g.4 in
      let t = tail levels most k xs more (g.0.1, (λ t. (g.1 t).1), (let d = g.2 in omega arith), g.3.1, order.1) m l e in
      let h = t.holds in
      record {
        whole = member k v t.whole;
        more = t.more;
        holds = (((g.0.0, h.0), (λ t. ((g.1 t).0, h.1 t)), (let d = g.2 in let ds = h.2 in omega arith), (g.3.0, h.3), rising_more before k (names t.whole) order.0 h.4), tt);
        spells = append_assoc (member_text k v) xs t.more ∙ ap (λ (zs : List ℕ). member_text k v ++ zs) t.spells;
        few = t.few;
        bytes = t.bytes;
      }

  behind_name : (xs ys more : List ℕ) → length xs ≤ most → xs ≡ 34 ∷ closed_text k ys → 58 ∷ (spelling v ++ members_tail ms) ≡ ys ++ more → MembersEnding most levels before xs
  behind_name xs [] more l e f = subst (MembersEnding most levels before) (sym e) name_ended
  behind_name xs (y ∷ ys) more l e f =
      let p = head_tail y 58 (ys ++ more) (spelling v ++ members_tail ms) (sym f) in
      let start : xs ≡ 34 ∷ closed_text k (58 ∷ ys) = e ∙ ap (λ (b : ℕ). 34 ∷ closed_text k (b ∷ ys)) p.0 in
      let count = ap length start in
      let both = length-append (flat_map byte_spelling k) (34 ∷ 58 ∷ ys) in
      let size = (spelled_length k).0 in
      elim (by_part (spelling v) (members_tail ms) ys more p.1) as (λ d. MembersEnding most levels before xs) [
        | inl r ↦ subst (MembersEnding most levels before) (member_front_is k ys ∙ sym start) (member_value_ends ys r.0 (omega arith) r.1)
        | inr r ↦
            let inside = ap length r.1 in
            let parts = length-append (spelling v) r.0 in
            subst (MembersEnding most levels before) (member_closed_is k v r.0 ∙ ap (λ (zs : List ℕ). 34 ∷ closed_text k (58 ∷ zs)) (sym r.1) ∙ sym start)
            (member_rest_ends r.0 more (omega arith) (omega arith) r.2)
      ]

  first_member_ends : (xs more : List ℕ) → length xs ≤ most → xs ++ more ≡ members_text (member k v ms) → MembersEnding most levels before xs
  first_member_ends xs more l e =
      elim (by_closing k (58 ∷ (spelling v ++ members_tail ms)) xs more (e ∙ member_closed_is k v (members_tail ms))) as (λ d. MembersEnding most levels before xs) [
        | inl r ↦ behind_name xs r.0 more l r.1 r.2
        | inr r ↦ name_ends xs r.0 l r.1
      ]

no_more_members : (levels most : ℕ) (before : List ℕ) → MembersTailEnding most levels before []
no_more_members levels most before =
    record { whole = no_members; more = 125 ∷ []; holds = (tt, (λ t. tt), omega arith, tt, tt); spells = refl; few = omega arith; bytes = bracket 125 (omega arith) }

closing_members_ends : MembersTailEnds no_members
closing_members_ends levels most before xs more g m l e =
    as_it_is (GoodMembers true levels (Some before)) members_tail (suc (enough most levels)) no_members xs more g e (omega arith) (bracket 125 (omega arith))

members_tail_ends : (k : List ℕ) (v : Json) (ms : Members) → EndsSoon v → MembersTailEnds ms → MembersTailEnds (member k v ms)
members_tail_ends k v ms one tail levels most before [] more g m l e = no_more_members levels most before
members_tail_ends k v ms one tail levels most before (x ∷ xs) more g m l e =
    let p = head_tail x 44 (xs ++ more) (members_text (member k v ms)) e in
    let r = first_member_ends k v ms one tail levels most (Some before) g m xs more (omega arith) p.1 in
    record {
      whole = r.whole;
      more = r.more;
      holds = r.holds.0;
      spells = ap (λ (b : ℕ). b ∷ (xs ++ r.more)) p.0 ∙ ap (λ (zs : List ℕ). 44 ∷ zs) r.spells ∙ sym (full_members_tail r.whole r.holds.1);
      few = r.few;
      bytes = r.bytes;
    }

object_ends : (k : List ℕ) (v : Json) (ms : Members) → EndsSoon v → MembersTailEnds ms → EndsSoon (object (member k v ms))
object_ends k v ms one tail zero most xs more g l e = absurd (let d = g.2 in omega arith)
object_ends k v ms one tail (suc levels) most [] more g l e = empty_ends (suc levels) most
object_ends k v ms one tail (suc levels) most (x ∷ xs) more g l e =
    let p = head_tail x 123 (xs ++ more) (members_text (member k v ms)) (e ∙ ap (λ (zs : List ℕ). 123 ∷ zs) (members_text_is (member k v ms))) in
    let members : GoodMembers true levels None (member k v ms) = (g.0.1, (λ t. (g.1 t).1), (let d = g.2 in omega arith), g.0.0.0, g.0.0.1) in
    let r = first_member_ends k v ms one tail levels most None members tt xs more (omega arith) p.1 in
    let h = r.holds.0 in
    let few = r.few in
    record {
      whole = object r.whole;
      more = r.more;
      holds = (((h.3, h.4), h.0), (λ t. (tt, h.1 t)), (let d = h.2 in omega arith));
      spells = ap (λ (b : ℕ). b ∷ (xs ++ r.more)) p.0 ∙ ap (λ (zs : List ℕ). 123 ∷ zs) (r.spells ∙ sym (members_text_is r.whole));
      few = omega arith;
      bytes = r.bytes;
    }

-- ---- all values

mutual
  pub value_ends : (v : Json) → EndsSoon v
  value_ends null = short_ends null (omega arith) null_bytes
  value_ends (boolean true) = short_ends (boolean true) (omega arith) (omega arith, (omega arith, (omega arith, (omega arith, tt))))
  value_ends (boolean false) = short_ends (boolean false) (omega arith) (omega arith, (omega arith, (omega arith, (omega arith, (omega arith, tt)))))
  value_ends (integer z) = integer_ends z
  value_ends (text t) = text_ends t
  value_ends (array no_items) = short_ends (array no_items) (omega arith) (omega arith, (omega arith, tt))
  value_ends (array (item v vs)) = list_ends v vs (value_ends v) (items_end vs)
  value_ends (object no_members) = short_ends (object no_members) (omega arith) (omega arith, (omega arith, tt))
  value_ends (object (member k v ms)) = object_ends k v ms (value_ends v) (members_end ms)

  items_end : (vs : Items) → TailEnds vs
  items_end no_items = closing_ends
  items_end (item v vs) = tail_ends v vs (value_ends v) (items_end vs)

  members_end : (ms : Members) → MembersTailEnds ms
  members_end no_members = closing_members_ends
  members_end (member k v ms) = members_tail_ends k v ms (value_ends v) (members_end ms)
