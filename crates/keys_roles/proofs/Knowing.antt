-- What is known of a file's signatures, entry by entry.
use Rattle.std.proofs.Common.{◌≡◌, ◌↔◌, ℕ, zero, suc, ◌+◌, ◌≤◌, Bool, true, false, cond, not, ◌&&◌, ◌||◌, List, [], ◌∷◌, ◌++◌, map, length, filter, drop, slice_get, Option, Some, None, refl, sym, ap, subst, ◌∙◌, arith, IsTrue, IsSomeAnd, bytes_eq, nat_eq, ⊎_elim, ◌⊎◌, inl, inr}
use Rattle.std.specs.Prelude.{find}
use Rattle.std.specs.List.{Contains, list_any}
use Rattle.std.proofs.lemmas.Bool.{eq-eqb, eqb-true, or_cases, or_left, or_right}
use Rattle.std.proofs.lemmas.Slice.Eq.{bytes_eq-Decides}
use Rattle.keys_roles.specs.Plain.{Key, lms, hss, Table, RoleRule, Signature, look_up}
use Rattle.keys_roles.specs.Rules.{AreDistinct, SpellsSignature}
use Rattle.keys_roles.specs.Verdicts.{Pair, same_key, same_pair, named_key, with_pair, pairs_from, Verdict, IsVerdict, AreVerdicts, is_known, unknown}
use Rattle.keys_roles.specs.steps.Counting.{IsIn, TellOf}
use Rattle.keys_roles.specs.declared.Verdict as held
use Rattle.keys_roles.specs.Views.{verdict_view, verdict_views}
use Rattle.keys_roles.proofs.Elements.{any_in, contains_in, in_contains, in_front, in_back, in_either, distinct_more}

-- the first of what is left stands at its place
pub drop_at : {X : Type 0} → (n : ℕ) (xs : List X) (x : X) (ys : List X) → drop n xs ≡ x ∷ ys → (slice_get xs n ≡ Some x) × (drop (suc n) xs ≡ ys)
drop_at zero [] x ys h = absurd (cc)
drop_at zero (z ∷ zs) x ys h = (let k : z ≡ x = cc in ap Some k, let k : zs ≡ ys = cc in k)
drop_at (suc n) [] x ys h = absurd (cc)
drop_at (suc n) (z ∷ zs) x ys h = drop_at n zs x ys h

-- what the verdicts say of the entry at a place
tells_one : (signed : List ℕ) (entries : List Signature) (place : ℕ) (e : Signature) (v : Verdict) → slice_get entries place ≡ Some e → IsVerdict signed entries v
    → v.pair.0 ≡ place → IsTrue v.verifies ↔ SpellsSignature v.pair.1 signed e.sig
tells_one signed entries place e v at is same =
    let there : slice_get entries v.pair.0 ≡ Some e = ap (slice_get entries) same ∙ at in
    subst (λ o. IsSomeAnd o (λ e. IsTrue v.verifies ↔ SpellsSignature v.pair.1 signed e.sig)) there is

pub tells : (signed : List ℕ) (entries : List Signature) (place : ℕ) (e : Signature) (known : List Verdict) → slice_get entries place ≡ Some e
    → AreVerdicts signed entries known → TellOf signed place e known
tells signed entries place e [] at are = tt
tells signed entries place e (v ∷ vs) at are = (tells_one signed entries place e v at are.0, tells signed entries place e vs at are.1)

-- the pair that was looked for is the one that was found
same_key_is : (a b : Key) → same_key a b ≡ true → a ≡ b
same_key_is (lms a) (lms b) h = ap lms ((bytes_eq-Decides a b).0 h)
same_key_is (lms a) (hss b) h = absurd (cc)
same_key_is (hss a) (lms b) h = absurd (cc)
same_key_is (hss a) (hss b) h = ap hss ((bytes_eq-Decides a b).0 h)

both : (a b : Bool) → (a && b) ≡ true → (a ≡ true) × (b ≡ true)
both true true h = (refl, refl)
both true false h = absurd (cc)
both false b h = absurd (cc)

pub same_pair_is : (p q : Pair) → same_pair p q ≡ true → (p.0 ≡ q.0) × (p.1 ≡ q.1)
same_pair_is p q h =
    let t = both (nat_eq p.0 q.0) (same_key p.1 q.1) h in
    (eqb-true p.0 q.0 t.0, same_key_is p.1 q.1 t.1)

-- what a look-up tells
looked : (signed : List ℕ) (place : ℕ) (key : Key) (e : Signature) (v w : Verdict) (known : List Verdict) (here : Bool) → same_pair v.pair (place, key) ≡ here
    → (v.pair.0 ≡ place → IsTrue v.verifies ↔ SpellsSignature v.pair.1 signed e.sig)
    → (find (λ u. same_pair u.pair (place, key)) known ≡ Some w → IsTrue w.verifies ↔ SpellsSignature key signed e.sig)
    → cond here (Some v) (find (λ u. same_pair u.pair (place, key)) known) ≡ Some w
    → IsTrue w.verifies ↔ SpellsSignature key signed e.sig
looked signed place key e v w known true same says later h =
    let is = same_pair_is v.pair (place, key) same in
    let one : v ≡ w = cc in
    subst (λ u. IsTrue u.verifies ↔ SpellsSignature key signed e.sig) one (subst (λ k. IsTrue v.verifies ↔ SpellsSignature k signed e.sig) is.1 (says is.0))
looked signed place key e v w known false same says later h = later h

pub found_tells : (signed : List ℕ) (place : ℕ) (key : Key) (e : Signature) (known : List Verdict) (w : Verdict) → TellOf signed place e known
    → find (λ v. same_pair v.pair (place, key)) known ≡ Some w → IsTrue w.verifies ↔ SpellsSignature key signed e.sig
found_tells signed place key e [] w tell h = absurd (cc)
found_tells signed place key e (v ∷ vs) w tell h =
    looked signed place key e v w vs (same_pair v.pair (place, key)) refl tell.0 (found_tells signed place key e vs w tell.1) h

none_or : (here : Bool) (v : Verdict) (o : Option Verdict) (rest : Bool) → (o ≡ None → rest ≡ false) → cond here (Some v) o ≡ None → (here || rest) ≡ false
none_or true v o rest later h = absurd (cc)
none_or false v o rest later h = later h

-- a pair is known where one of the verdicts is on it
same_key_self : (k : Key) → same_key k k ≡ true
same_key_self (lms b) = (bytes_eq-Decides b b).1 refl
same_key_self (hss b) = (bytes_eq-Decides b b).1 refl

same_self : (p : Pair) → same_pair p p ≡ true
same_self p = ap (λ b. b && same_key p.1 p.1) (eq-eqb p.0 p.0 refl) ∙ same_key_self p.1

pub known_in : (vs : List Verdict) (pair : Pair) → IsIn (map (λ v. v.pair) vs) pair → IsTrue (is_known vs pair)
known_in [] pair h = absurd h
known_in (v ∷ vs) pair (inl h) = or_left (same_pair v.pair pair) (is_known vs pair) (subst (λ (p : Pair). same_pair v.pair p ≡ true) h (same_self v.pair))
known_in (v ∷ vs) pair (inr h) = or_right (same_pair v.pair pair) (is_known vs pair) (known_in vs pair h)

one_pair : (p q : Pair) → (p.0 ≡ q.0) × (p.1 ≡ q.1) → p ≡ q
one_pair p q h = ap (λ (n : ℕ). (n, p.1)) h.0 ∙ ap (λ (k : Key). (q.0, k)) h.1

pub in_known : (vs : List Verdict) (pair : Pair) → IsTrue (is_known vs pair) → IsIn (map (λ v. v.pair) vs) pair
in_known [] pair h = absurd (cc)
in_known (v ∷ vs) pair h =
    ⊎_elim (λ l. inl (one_pair v.pair pair (same_pair_is v.pair pair l))) (λ r. inr (in_known vs pair r)) (or_cases (same_pair v.pair pair) (is_known vs pair) h)

pub found_known : (known : List Verdict) (pair : Pair) (w : Verdict) → find (λ v. same_pair v.pair pair) known ≡ Some w → is_known known pair ≡ true
found_known [] pair w h = absurd (cc)
found_known (v ∷ vs) pair w h = some_or (same_pair v.pair pair) (λ k. found_known vs pair w k) h
  where
    some_or : (here : Bool) → (find (λ u. same_pair u.pair pair) vs ≡ Some w → is_known vs pair ≡ true)
        → cond here (Some v) (find (λ u. same_pair u.pair pair) vs) ≡ Some w → (here || is_known vs pair) ≡ true
    some_or true later k = refl
    some_or false later k = later k

pub none_known : (known : List Verdict) (pair : Pair) → find (λ v. same_pair v.pair pair) known ≡ None → is_known known pair ≡ false
none_known [] pair h = refl
none_known (v ∷ vs) pair h = none_or (same_pair v.pair pair) v (find (λ v. same_pair v.pair pair) vs) (is_known vs pair) (none_known vs pair) h

-- how many are not known, pair by pair
pub unknown_one : (known : List Verdict) (place : ℕ) (key : Key) (ps : List Pair) → unknown known ((place, key) ∷ ps) ≡ cond (is_known known (place, key)) 0 1 + unknown known ps
unknown_one known place key ps = counted (is_known known (place, key))
  where
    counted : (b : Bool) → length (cond (not b) ((place, key) ∷ filter (λ p. not (is_known known p)) ps) (filter (λ p. not (is_known known p)) ps))
        ≡ cond b 0 1 + unknown known ps
    counted true = omega arith
    counted false = omega arith

pub unknown_with : (known : List Verdict) (place : ℕ) (o : Option Key) (ps : List Pair) → unknown known (with_pair place o ps) ≡ unknown known (with_pair place o []) + unknown known ps
unknown_with known place None ps = omega arith
unknown_with known place (Some key) ps =
    let more = unknown_one known place key ps in
    let alone = unknown_one known place key [] in
    omega (arith, more, alone)

pub one_unknown : (known : List Verdict) (place : ℕ) (o : Option Key) (key : Key) → o ≡ Some key → unknown known (with_pair place o []) ≡ cond (is_known known (place, key)) 0 1
one_unknown known place o key is =
    let one = unknown_one known place key [] in
    ap (λ k. unknown known (with_pair place k [])) is ∙ (let all : unknown known ((place, key) ∷ []) ≡ cond (is_known known (place, key)) 0 1 = omega (arith, one) in all)

-- the key that an id of the rule names
named_by : (rule : RoleRule) (table : Table) (id : List ℕ) (key : Key) (b : Bool) → list_any (λ own. bytes_eq own id) rule.keyids ≡ b
    → cond b (look_up table id) None ≡ Some key → (b ≡ true) × (look_up table id ≡ Some key)
named_by rule table id key true is h = (refl, h)
named_by rule table id key false is h = absurd (cc)

pub named_is : (rule : RoleRule) (table : Table) (id : List ℕ) (key : Key) → named_key rule table id ≡ Some key → IsIn rule.keyids id × (look_up table id ≡ Some key)
named_is rule table id key h =
    let t = named_by rule table id key (list_any (λ own. bytes_eq own id) rule.keyids) refl h in
    ((any_in rule.keyids id).0 t.0, t.1)

pub is_named : (rule : RoleRule) (table : Table) (id : List ℕ) (key : Key) → IsIn rule.keyids id → look_up table id ≡ Some key → named_key rule table id ≡ Some key
is_named rule table id key listed there = ap (λ b. cond b (look_up table id) None) ((any_in rule.keyids id).1 listed) ∙ there

-- one entry on
one_on : (n : ℕ) → suc n ≡ n + 1
one_on n = omega arith

pub entry_at : {X : Type 0} → (n : ℕ) (xs : List X) (x : X) (ys left : List X) → drop n xs ≡ left → left ≡ x ∷ ys → slice_get xs n ≡ Some x
entry_at n xs x ys left here at = (drop_at n xs x ys (here ∙ at)).0

pub entries_on : {X : Type 0} → (n : ℕ) (xs : List X) (x : X) (ys left : List X) → drop n xs ≡ left → left ≡ x ∷ ys → drop (n + 1) xs ≡ ys
entries_on n xs x ys left here at = subst (λ k. drop k xs ≡ ys) (one_on n) (drop_at n xs x ys (here ∙ at)).1

pub pairs_on : (rule : RoleRule) (table : Table) (n : ℕ) (left : List Signature) (e : Signature) (later : List Signature) → left ≡ e ∷ later
    → pairs_from rule table n left ≡ with_pair n (named_key rule table e.keyid) (pairs_from rule table (n + 1) later)
pairs_on rule table n left e later at =
    subst (λ k. pairs_from rule table n left ≡ with_pair n (named_key rule table e.keyid) (pairs_from rule table k later)) (one_on n) (ap (pairs_from rule table n) at)

-- one verdict more
pub with_verdict : (vs : List held.Verdict) (v : held.Verdict) (ps : List Pair)
    → map (λ u. u.pair) (verdict_views (vs ++ v ∷ [])) ++ ps ≡ map (λ u. u.pair) (verdict_views vs) ++ ((verdict_view v).pair ∷ ps)
with_verdict [] v ps = refl
with_verdict (u ∷ us) v ps = ap (λ qs. (verdict_view u).pair ∷ qs) (with_verdict us v ps)

-- verdicts with pairs that are left, and none of these where a verdict is on it already
pub has_pair : (qs ps : List Pair) (q : Pair) → IsIn qs q → (p : Pair) → IsIn (qs ++ ps) p ↔ IsIn (qs ++ (q ∷ ps)) p
has_pair qs ps q there p = (λ h. on (in_either qs ps p h), λ h. back (in_either qs (q ∷ ps) p h))
  where
    on : IsIn qs p ⊎ IsIn ps p → IsIn (qs ++ (q ∷ ps)) p
    on (inl h) = in_front qs (q ∷ ps) p h
    on (inr h) = in_back qs (q ∷ ps) p (inr h)

    back : IsIn qs p ⊎ IsIn (q ∷ ps) p → IsIn (qs ++ ps) p
    back (inl h) = in_front qs ps p h
    back (inr (inl h)) = in_front qs ps p (subst (IsIn qs) h there)
    back (inr (inr h)) = in_back qs ps p h

-- all pairs of two lists, as what is known
pub known_all : (vs old : List Verdict) (ps : List Pair) → ((p : Pair) → IsIn (map (λ v. v.pair) vs ++ []) p ↔ IsIn (map (λ v. v.pair) old ++ ps) p)
    → (p : Pair) → IsTrue (is_known vs p) ↔ (IsTrue (is_known old p) ⊎ Contains ps p)
known_all vs old ps same p = (
  λ h. known (in_either (map (λ v. v.pair) old) ps p ((same p).0 (in_front (map (λ v. v.pair) vs) [] p (in_known vs p h)))),
  λ h. known_in vs p (here (in_either (map (λ v. v.pair) vs) [] p ((same p).1 (there h)))),
)
  where
    known : IsIn (map (λ v. v.pair) old) p ⊎ IsIn ps p → IsTrue (is_known old p) ⊎ Contains ps p
    known (inl h) = inl (known_in old p h)
    known (inr h) = inr (contains_in ps p h)

    there : IsTrue (is_known old p) ⊎ Contains ps p → IsIn (map (λ v. v.pair) old ++ ps) p
    there (inl h) = in_front (map (λ v. v.pair) old) ps p (in_known old p h)
    there (inr h) = in_back (map (λ v. v.pair) old) ps p (in_contains ps p h)

    here : IsIn (map (λ v. v.pair) vs) p ⊎ IsIn [] p → IsIn (map (λ v. v.pair) vs) p
    here (inl h) = h
    here (inr h) = absurd h

-- a verdict on a pair of which nothing was known
pub distinct_verdicts : (vs : List held.Verdict) (v : held.Verdict) → AreDistinct (map (λ u. u.pair) (verdict_views vs)) → is_known (verdict_views vs) (verdict_view v).pair ≡ false
    → AreDistinct (map (λ u. u.pair) (verdict_views (vs ++ v ∷ [])))
distinct_verdicts vs v distinct new =
    subst AreDistinct (sym (last vs))
    (distinct_more (map (λ u. u.pair) (verdict_views vs)) (verdict_view v).pair distinct (λ h. absurd (let k = known_in (verdict_views vs) (verdict_view v).pair h in let no = sym new ∙ k in cc)))
  where
    last : (us : List held.Verdict) → map (λ u. u.pair) (verdict_views (us ++ v ∷ [])) ≡ map (λ u. u.pair) (verdict_views us) ++ (verdict_view v).pair ∷ []
    last [] = refl
    last (u ∷ us) = ap (λ qs. (verdict_view u).pair ∷ qs) (last us)

pub verdict_more : (signed : List ℕ) (entries : List Signature) (vs : List held.Verdict) (v : held.Verdict) → AreVerdicts signed entries (verdict_views vs)
    → IsVerdict signed entries (verdict_view v) → AreVerdicts signed entries (verdict_views (vs ++ v ∷ []))
verdict_more signed entries [] v are is = (is, tt)
verdict_more signed entries (u ∷ us) v are is = (are.0, verdict_more signed entries us v are.1 is)

-- the verdict that a check gives is one on its file
pub is_verdict : (signed : List ℕ) (entries : List Signature) (place : ℕ) (e : Signature) (key : Key) (verifies : Bool) → slice_get entries place ≡ Some e
    → (IsTrue verifies ↔ SpellsSignature key signed e.sig) → IsVerdict signed entries (record { pair = (place, key); verifies = verifies })
is_verdict signed entries place e key verifies at told = subst (λ o. IsSomeAnd o (λ e. IsTrue verifies ↔ SpellsSignature key signed e.sig)) (sym at) told

-- what is not known of the entries that are left, the first of them apart
pub fewer_left : (known : List Verdict) (rule : RoleRule) (table : Table) (n : ℕ) (left : List Signature) (e : Signature) (later : List Signature) → left ≡ e ∷ later
    → unknown known (pairs_from rule table n left) ≡ unknown known (with_pair n (named_key rule table e.keyid) []) + unknown known (pairs_from rule table (n + 1) later)
fewer_left known rule table n left e later at =
    ap (unknown known) (pairs_on rule table n left e later at) ∙ unknown_with known n (named_key rule table e.keyid) (pairs_from rule table (n + 1) later)

-- there are no more pairs than entries, and none of them is known where nothing is
pub few_pairs : (rule : RoleRule) (table : Table) (n : ℕ) (entries : List Signature) → length (pairs_from rule table n entries) ≤ length entries
few_pairs rule table n [] = omega arith
few_pairs rule table n (e ∷ es) = one (named_key rule table e.keyid) (few_pairs rule table (suc n) es)
  where
    one : (o : Option Key) → length (pairs_from rule table (suc n) es) ≤ length es → length (with_pair n o (pairs_from rule table (suc n) es)) ≤ length (e ∷ es)
    one None few = omega (arith, few)
    one (Some key) few = omega (arith, few)
