-- The public keys that count, found entry by entry.
use Rattle.std.proofs.Common.{◌≡◌, ℕ, ◌<◌, ◌≤◌, List, [], ◌∷◌, ◌++◌, length, refl, sym, ap, subst, ◌∙◌, arith, ◌⊎◌, inl, inr}
use Rattle.std.specs.Prelude.{◌↔◌, IsTrue, nat_le}
use Rattle.std.proofs.lemmas.Bool.{cases_lt, leb-true, le-leb}
use Rattle.std.specs.List.{AllByRecursion}
use Rattle.keys_roles.specs.Plain.{Table, RoleRule, Signature, look_up}
use Rattle.keys_roles.specs.Rules.{AreDistinct, Counts, HaveSigned, Meets}
use Rattle.keys_roles.specs.steps.Counting.{AreCounted, IsIn, CountsBy, IsTaken}
use Rattle.keys_roles.proofs.Elements.{contains_in, in_contains, of_each, each_more, in_more, in_last, distinct_more, fewer, first_in, later_in, first_or_later, none_in}

module _ (rule : RoleRule) (table : Table) (signed : List ℕ) where
  -- an entry of the list that makes a key count
  pub record Maker (entries : List Signature) (top : List ℕ) : Type 0 where
    pub entry : Signature
    pub listed : IsIn entries entry
    pub by : CountsBy rule table signed entry top

  pub counts_from : (entries : List Signature) (entry : Signature) (top : List ℕ) → IsIn entries entry → CountsBy rule table signed entry top
      → Counts rule table signed entries top
  counts_from entries entry top listed by = record {
    id = entry.keyid;
    key = by.key;
    of_rule = contains_in rule.keyids entry.keyid by.of_rule;
    of_table = by.of_table;
    is_top = by.is_top;
    is_signed = record {
      entry = entry;
      signature = by.signs.signature;
      listed = contains_in entries entry listed;
      same_id = refl;
      digits = by.signs.spelled;
      verifies = by.signs.verifies;
    };
  }

  pub maker_of : (entries : List Signature) (top : List ℕ) → Counts rule table signed entries top → Maker entries top
  maker_of entries top c = record {
    entry = c.is_signed.entry;
    listed = in_contains entries c.is_signed.entry c.is_signed.listed;
    by = record {
      key = c.key;
      of_rule = subst (λ id. IsIn rule.keyids id) (sym c.is_signed.same_id) (in_contains rule.keyids c.id c.of_rule);
      of_table = ap (look_up table) c.is_signed.same_id ∙ c.of_table;
      is_top = c.is_top;
      signs = record { signature = c.is_signed.signature; spelled = c.is_signed.digits; verifies = c.is_signed.verifies };
    };
  }

  -- what is known of the keys found where so many entries are left
  pub record AreFound (entries rest : List Signature) (tops : List (List ℕ)) : Type 0 where
    pub distinct : AreDistinct tops
    pub each : AllByRecursion (Counts rule table signed entries) tops
    pub seen : (top : List ℕ) → Counts rule table signed entries top → IsIn tops top ⊎ Maker rest top
    pub inside : (e : Signature) → IsIn rest e → IsIn entries e

  pub none_found : (entries : List Signature) → AreFound entries entries []
  none_found entries = record { distinct = tt; each = tt; seen = λ top c. inr (maker_of entries top c); inside = λ e h. h }

  or_none : (entries : List Signature) (tops : List (List ℕ)) (top : List ℕ) → entries ≡ [] → IsIn tops top ⊎ Maker entries top → IsIn tops top
  or_none entries tops top none (inl h) = h
  or_none entries tops top none (inr m) = absurd (none_in entries m.entry none m.listed)

  -- as many as are asked for, before the last entry
  pub are_some : (entries rest : List Signature) (tops : List (List ℕ)) (most count : ℕ) → AreFound entries rest tops → count ≡ length tops → most ≤ count
      → count < length entries → AreCounted rule table signed entries most count
  are_some entries rest tops most count found many enough before = record {
    keys = tops;
    distinct = found.distinct;
    many = many;
    each = found.each;
    all = λ more top c. elim more [ inl less ↦ absurd (omega arith) | inr as_many ↦ absurd (omega arith) ];
  }

  -- all, after the last entry
  pub are_all : (entries rest : List Signature) (tops : List (List ℕ)) (most count : ℕ) → AreFound entries rest tops → count ≡ length tops → rest ≡ []
      → AreCounted rule table signed entries most count
  are_all entries rest tops most count found many none = record {
    keys = tops;
    distinct = found.distinct;
    many = many;
    each = found.each;
    all = λ more top c. contains_in tops top (or_none rest tops top none (found.seen top c));
  }

  -- as many as the threshold meet the rule
  pub is_met : (entries : List Signature) (most count : ℕ) → rule.threshold ≡ most → AreCounted rule table signed entries most count → most ≤ count
      → Meets rule table signed entries
  is_met entries most count asked counted enough =
      let many = counted.many in
      record { keys = counted.keys; distinct = counted.distinct; enough = omega (arith, asked, many, enough); each = counted.each }

  -- and fewer do not
  pub not_met : (entries : List Signature) (most count : ℕ) → rule.threshold ≡ most → AreCounted rule table signed entries most count → count < most
      → Meets rule table signed entries → ⊥
  not_met entries most count asked counted few met =
      let at_most = fewer met.keys counted.keys met.distinct
      (λ top h. in_contains counted.keys top (counted.all (inl few) top (of_each (Counts rule table signed entries) met.keys top met.each h))) in
      let enough = met.enough in
      let many = counted.many in
      absurd (omega (arith, at_most, enough, many, asked))

  -- so comparing the two numbers tells it
  pub tells : (entries : List Signature) (most count : ℕ) → rule.threshold ≡ most → AreCounted rule table signed entries most count
      → IsTrue (nat_le most count) ↔ Meets rule table signed entries
  tells entries most count asked counted = (
    λ h. is_met entries most count asked counted (leb-true most count h),
    λ m. le-leb most count (elim (cases_lt count most) [ inl less ↦ absurd (not_met entries most count asked counted less m) | inr enough ↦ enough ]),
  )

  -- with a place for each entry they are all that have signed
  pub have_signed : (entries : List Signature) (most count : ℕ) → most ≡ length entries → AreCounted rule table signed entries most count
      → HaveSigned rule table signed entries count
  have_signed entries most count places counted = record {
    keys = counted.keys;
    distinct = counted.distinct;
    many = counted.many;
    each = counted.each;
    all = λ top c. counted.all (elim (cases_lt count most) [ inl less ↦ inl less | inr enough ↦ inr (omega (arith, places, enough)) ]) top c;
  }

  -- a step over the first entry: the keys that it makes count are among the new ones
  maker_later : (rest later : List Signature) (entry : Signature) (old new : List (List ℕ)) (top : List ℕ) → rest ≡ entry ∷ later
      → ((t : List ℕ) → IsIn old t → IsIn new t)
      → ((t : List ℕ) → CountsBy rule table signed entry t → IsIn new t)
      → IsIn old top ⊎ Maker rest top → IsIn new top ⊎ Maker later top
  maker_later rest later entry old new top at kept here (inl h) = inl (kept top h)
  maker_later rest later entry old new top at kept here (inr m) = sorted (first_or_later rest later entry m.entry at m.listed)
    where
      sorted : (entry ≡ m.entry) ⊎ IsIn later m.entry → IsIn new top ⊎ Maker later top
      sorted (inl same) = inl (here top (subst (λ e. CountsBy rule table signed e top) (sym same) m.by))
      sorted (inr listed) = inr (record { entry = m.entry; listed = listed; by = m.by })

  step : (entries rest later : List Signature) (entry : Signature) (old new : List (List ℕ)) → rest ≡ entry ∷ later → AreFound entries rest old
      → ((t : List ℕ) → IsIn old t → IsIn new t)
      → ((t : List ℕ) → CountsBy rule table signed entry t → IsIn new t)
      → AreDistinct new → AllByRecursion (Counts rule table signed entries) new → AreFound entries later new
  step entries rest later entry old new at found kept here distinct each = record {
    distinct = distinct;
    each = each;
    seen = λ top c. maker_later rest later entry old new top at kept here (found.seen top c);
    inside = λ e h. found.inside e (later_in rest later entry e at h);
  }

  -- the entry makes no key count
  pub step_none : (entries rest later : List Signature) (entry : Signature) (tops : List (List ℕ)) → rest ≡ entry ∷ later → AreFound entries rest tops
      → ((t : List ℕ) → CountsBy rule table signed entry t → ⊥) → AreFound entries later tops
  step_none entries rest later entry tops at found none =
      step entries rest later entry tops tops at found (λ t h. h) (λ t by. absurd (none t by)) found.distinct found.each

  -- the entry makes this key count
  pub step_some : (entries rest later : List Signature) (entry : Signature) (old new : List (List ℕ)) (top : List ℕ) → rest ≡ entry ∷ later → AreFound entries rest old
      → CountsBy rule table signed entry top → ((t : List ℕ) → CountsBy rule table signed entry t → top ≡ t) → IsTaken top old new → AreFound entries later new
  step_some entries rest later entry old new top at found by one (inl h) =
      let same = step entries rest later entry old old at found (λ t k. k) (λ t b. subst (λ x. IsIn old x) (one t b) h.0) found.distinct found.each in
      subst (λ ts. AreFound entries later ts) (sym h.1) same
  step_some entries rest later entry old new top at found by one (inr h) =
      let counts = counts_from entries entry top (found.inside entry (first_in rest later entry entry at refl)) by in
      let more = step entries rest later entry old (old ++ top ∷ []) at found
      (λ t k. in_more old top t k) (λ t b. subst (λ x. IsIn (old ++ top ∷ []) x) (one t b) (in_last old top))
      (distinct_more old top found.distinct h.0) (each_more (Counts rule table signed entries) old top found.each counts) in
      subst (λ ts. AreFound entries later ts) (sym h.1) more
