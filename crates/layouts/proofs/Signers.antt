-- The key that has signed, and the rule of one id that it meets.
use Rattle.std.proofs.Common.{◌≡◌, ◌↔◌, inl, inr, ℕ, ◌≤◌, List, [], ◌∷◌, length, Some, None, Bool, IsTrue, refl, sym, ap, subst, ◌∙◌, arith}
use Rattle.std.specs.List.{AllByRecursion}
use Rattle.keys_roles.specs.Keys.{top_key}
use Rattle.keys_roles.specs.Plain.{Key, RoleRule, Signature, Table, look_up}
use Rattle.keys_roles.specs.Rules.{Counts, IsSigned, Meets}
use Rattle.keys_roles.specs.steps.Counting.{IsIn}
use Rattle.keys_roles.proofs.Elements.{contains_in, in_contains}
use Rattle.layouts.specs.steps.Gathering.{IsSigner}

abbrev pub one_id : List ℕ → RoleRule
one_id id = record { keyids = id ∷ []; threshold = 1 }

alone : (id other : List ℕ) → IsIn (id ∷ []) other → other ≡ id
alone id other (inl h) = sym h
alone id other (inr h) = absurd h

some_once : {A : Type 0} (a b : A) → Some a ≡ Some b → a ≡ b
some_once a b e = cc

module _ (keys : Table) (signed : List ℕ) (entries : List Signature) (id : List ℕ) where
  counted : (top : List ℕ) → Counts (one_id id) keys signed entries top → IsSigner keys signed entries id top
  counted top h =
      let same = alone id h.id (in_contains (id ∷ []) h.id h.of_rule) in
      record {
        key = h.key;
        of_table = ap (look_up keys) (sym same) ∙ h.of_table;
        is_top = h.is_top;
        is_signed = subst (λ (z : List ℕ). IsSigned h.key z signed entries) same h.is_signed;
      }

  counts : (top : List ℕ) → IsSigner keys signed entries id top → Counts (one_id id) keys signed entries top
  counts top h = record {
    id = id;
    key = h.key;
    of_rule = contains_in (id ∷ []) id (inl refl);
    of_table = h.of_table;
    is_top = h.is_top;
    is_signed = h.is_signed;
  }

  some_top : (tops : List (List ℕ)) → 1 ≤ length tops → AllByRecursion (Counts (one_id id) keys signed entries) tops → (top : List ℕ) × Counts (one_id id) keys signed entries top
  some_top [] more each = absurd (omega (arith, more))
  some_top (top ∷ tops) more each = (top, each.0)

  pub signed_by : Meets (one_id id) keys signed entries → (key : Key) → look_up keys id ≡ Some key → IsSigner keys signed entries id (top_key key)
  signed_by m key at =
      let t = some_top m.keys m.enough m.each in
      let s = counted t.0 t.1 in
      let same = some_once s.key key (sym s.of_table ∙ at) in
      record { key = key; of_table = at; is_top = refl; is_signed = subst (λ (k : Key). IsSigned k id signed entries) same s.is_signed }

  pub meets_one : (top : List ℕ) → IsSigner keys signed entries id top → Meets (one_id id) keys signed entries
  meets_one top h = record { keys = top ∷ []; distinct = (tt, tt); enough = omega arith; each = (counts top h, tt) }

  pub one_top : (top : List ℕ) (key : Key) → look_up keys id ≡ Some key → IsSigner keys signed entries id top → top_key key ≡ top
  one_top top key at h =
      let same = some_once key h.key (sym at ∙ h.of_table) in
      ap top_key same ∙ h.is_top

  pub no_top : (top : List ℕ) → look_up keys id ≡ None → IsSigner keys signed entries id top → ⊥
  no_top top at h = let both : None ≡ Some h.key = sym at ∙ h.of_table in absurd (cc)

-- the same of a call's arguments
pub moved : (keys : Table) (ids : List (List ℕ)) (id : List ℕ) (signed here : List ℕ) (entries given : List Signature) (b : Bool)
    → ids ≡ id ∷ [] → here ≡ signed → given ≡ entries
    → IsTrue b ↔ Meets (record { keyids = ids; threshold = 1 }) keys here given → IsTrue b ↔ Meets (one_id id) keys signed entries
moved keys ids id signed here entries given b p q r h =
    subst (λ (z : List Signature). IsTrue b ↔ Meets (one_id id) keys signed z) r
    (subst (λ (z : List ℕ). IsTrue b ↔ Meets (one_id id) keys z given) q
    (subst (λ (z : List (List ℕ)). IsTrue b ↔ Meets (record { keyids = z; threshold = 1 }) keys here given) p h))
