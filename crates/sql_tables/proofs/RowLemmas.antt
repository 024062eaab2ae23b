-- How an INSERT and a DELETE change the cells of a table.
use Rattle.std.proofs.Common.{◌≡◌, ◌⊎◌, inl, inr, ℤ, List, [], ◌∷◌, ◌++◌, Bool, true, false, not, filter, map, refl, sym, ap, subst, ◌∙◌, true≢false}
use Rattle.std.specs.Ordering.{is_eq, int_cmp}
use Rattle.std.proofs.lemmas.Bool.{and_parts, not-true}
use Rattle.std.proofs.lemmas.Cmp.{tied_itself}
use Rattle.sqlite_value.proofs.OrderLemmas.{value_cmp_total, value_cmp-Int}
use Rattle.sqlite.specs.declared.types.Value.TheVariants.{Int}
use Rattle.sqlite.specs.Order.{Row, value_cmp}
use Rattle.sqlite_trees.specs.Tree.{rowid, has_rowid, without_rowid}
use Rattle.sqlite_rules.specs.Lists.{Has}
use Rattle.sqlite_rules.specs.Edit.{put_all, are_fresh, is_taken, without_all, id_in}
use Rattle.sqlite_rules.specs.Calls.{ids_of}
use Rattle.sqlite_rules.proofs.ListLemmas.{some_from, has_left, has_right, has_either, has_filtered, has_kept}
use Rattle.sqlite_rules.proofs.TableLemmas.{put_all_has, put_all_keeps, put_all_adds, without_all_has}
use Rattle.std.specs.declared.cmp.Ordering.{Ordering}
use Rattle.std.specs.declared.cmp.Ordering.TheVariants.{Less, Equal, Greater}
use Rattle.std.proofs.lemmas.Map.Lookups.{exact_signed}
use Rattle.sql_tables.specs.Rows.{AreRows}

pub has_map : {A B : Type 0} (f : A → B) (xs : List A) (x : A) → Has xs x → Has (map f xs) (f x)
has_map f [] x h = absurd h
has_map f (y ∷ xs) x (inl is) = inl (ap f is)
has_map f (y ∷ xs) x (inr later) = inr (has_map f xs x later)

pub map_has : {A B : Type 0} (f : A → B) (xs : List A) (b : B) → Has (map f xs) b → (x : A) × Has xs x × (b ≡ f x)
map_has f [] b h = absurd h
map_has f (y ∷ xs) b (inl is) = (y, inl refl, is)
map_has f (y ∷ xs) b (inr later) = let it = map_has f xs b later in (it.0, inr it.1, it.2)

equal_is : (o : Ordering) → is_eq o ≡ true → o ≡ Equal
equal_is Less h = absurd (cc)
equal_is Equal h = refl
equal_is Greater h = absurd (cc)

int_exact : (m n : ℤ) → int_cmp m n ≡ Equal → m ≡ n
int_exact = exact_signed

taken : (rows : List Row) (new x : Row) → Has rows x → rowid x ≡ rowid new → is_taken rows new ≡ true
taken rows new x has same = some_from _ rows x has (subst (λ v. is_eq (value_cmp v (rowid new)) ≡ true) (sym same) (ap is_eq (tied_itself value_cmp_total (rowid new))))

module _ (shown : Row → Row) (rows cells : List Row) (are : AreRows shown rows cells) where
  -- one row is put at a free rowid
  pub rows_with : (new : Row) (n : ℤ) → rowid new ≡ Int n → are_fresh rows (new ∷ []) ≡ true → AreRows shown (put_all rows (new ∷ [])) (cells ++ shown new ∷ [])
  rows_with new n id fresh = record {
    keyed = λ x y in_x in_y same. both x y (from x in_x) (from y in_y) same;
    numbered = λ x in_x. elim (from x in_x) [ inl is ↦ (n, ap rowid is ∙ id) | inr was ↦ are.numbered x was ];
    sound = λ x in_x. elim (from x in_x) [ inl is ↦ has_right cells _ (shown x) (inl (ap shown is)) | inr was ↦ has_left cells _ (shown x) (are.sound x was) ];
    complete = λ c in_c. elim (has_either cells _ c in_c) [ inl was ↦ let it = are.complete c was in (it.0, put_all_keeps (new ∷ []) rows it.0 fresh it.1, it.2) | inr is ↦ (new, put_all_adds (new ∷ []) rows new fresh (inl refl), sym (alone is)) ];
  }
    where
      free : is_taken rows new ≡ false
      free = not-true _ (and_parts _ _ fresh).0

      from : (x : Row) → Has (put_all rows (new ∷ [])) x → (x ≡ new) ⊎ Has rows x
      from x h = elim (put_all_has (new ∷ []) rows x h) [ inl (inl is) ↦ inl is | inl (inr none) ↦ absurd none | inr was ↦ inr was ]

      alone : {c : Row} → Has (shown new ∷ []) c → c ≡ shown new
      alone (inl is) = is
      alone (inr none) = absurd none

      both : (x y : Row) → (x ≡ new) ⊎ Has rows x → (y ≡ new) ⊎ Has rows y → rowid x ≡ rowid y → x ≡ y
      both x y (inl a) (inl b) same = a ∙ sym b
      both x y (inl a) (inr b) same = absurd (true≢false (sym (taken rows new y b (sym same ∙ ap rowid a)) ∙ free))
      both x y (inr a) (inl b) same = absurd (true≢false (sym (taken rows new x a (same ∙ ap rowid b)) ∙ free))
      both x y (inr a) (inr b) same = are.keyed x y a b same

abbrev Lacks : List ℤ → Row → Type 0
Lacks ids x = (id : ℤ) → Has ids id → has_rowid id x ≡ false

gone : (ids : List ℤ) (rows : List Row) (x : Row) → Has (without_all rows ids) x → Lacks ids x
gone [] rows x h id in_ids = absurd in_ids
gone (i ∷ ids) rows x h id (inl is) = let here = has_filtered _ rows x (without_all_has ids (without_rowid i rows) x h) in rw is (not-true _ here.1)
gone (i ∷ ids) rows x h id (inr later) = gone ids (without_rowid i rows) x h id later

stays : (ids : List ℤ) (rows : List Row) (x : Row) → Has rows x → Lacks ids x → Has (without_all rows ids) x
stays [] rows x h lacks = h
stays (i ∷ ids) rows x h lacks = stays ids (without_rowid i rows) x (has_kept _ rows x h (ap not (lacks i (inl refl)))) (λ id in_ids. lacks id (inr in_ids))

same_number : (m n : ℤ) → is_eq (value_cmp (Int m) (Int n)) ≡ true → m ≡ n
same_number m n h = int_exact m n (equal_is _ (sym (ap is_eq (value_cmp-Int m n)) ∙ h))

-- the rows whose rowids an answer gives are taken out
pub record Picks (rows answers : List Row) (picked : Row → Bool) : Type 0 where
  pub from : (a : Row) → Has answers a → (r : Row) × Has rows r × (picked r ≡ true) × (a ≡ rowid r ∷ [])
  pub each : (r : Row) → Has rows r → picked r ≡ true → Has answers (rowid r ∷ [])

module _ (shown : Row → Row) (rows cells : List Row) (are : AreRows shown rows cells) where
  pub rows_without : (answers : List Row) (picked : Row → Bool) → Picks rows answers (λ r. picked (shown r)) → AreRows shown (put_all (without_all rows (ids_of answers)) []) (filter (λ c. not (picked c)) cells)
  rows_without answers picked picks = record {
    keyed = λ x y in_x in_y same. are.keyed x y (was x in_x) (was y in_y) same;
    numbered = λ x in_x. are.numbered x (was x in_x);
    sound = λ x in_x. has_kept _ cells (shown x) (are.sound x (was x in_x)) (ap not (unpicked x in_x (picked (shown x)) refl));
    complete = λ c in_c.
        let both = has_filtered _ cells c in_c in
        let it = are.complete c both.0 in
        (it.0, stays (ids_of answers) rows it.0 it.1 (λ id in_ids. lacks it.0 it.1 (ap picked it.2 ∙ not-true _ both.1) id in_ids (has_rowid id it.0) refl), it.2);
  }
    where
      was : (x : Row) → Has (without_all rows (ids_of answers)) x → Has rows x
      was x = without_all_has (ids_of answers) rows x

      unpicked : (x : Row) → Has (without_all rows (ids_of answers)) x → (b : Bool) → picked (shown x) ≡ b → b ≡ false
      unpicked x in_x false is = refl
      unpicked x in_x true is =
          let n = are.numbered x (was x in_x) in
          let in_ids = has_map (λ r. id_in (rowid r)) answers _ (picks.each x (was x in_x) is) in
          absurd (true≢false (sym (rw n.1 (ap is_eq (tied_itself value_cmp_total (Int n.0)))) ∙ gone (ids_of answers) rows x in_x _ in_ids))

      lacks : (x : Row) → Has rows x → picked (shown x) ≡ false → (id : ℤ) → Has (ids_of answers) id → (b : Bool) → has_rowid id x ≡ b → b ≡ false
      lacks x in_x not_picked id in_ids false is = refl
      lacks x in_x not_picked id in_ids true is =
          let a = map_has (λ r. id_in (rowid r)) answers id in_ids in
          let r = picks.from a.0 a.1 in
          let n = are.numbered x in_x in
          let m = are.numbered r.0 r.1 in
          let same : id ≡ m.0 = a.2 ∙ ap (λ (v : Row). id_in (rowid v)) r.3 ∙ ap id_in m.1 in
          let equal : n.0 ≡ id = same_number n.0 id (rw n.1 at is) in
          let one : x ≡ r.0 = are.keyed x r.0 in_x r.1 (n.1 ∙ ap Int (equal ∙ same) ∙ sym m.1) in
          absurd (true≢false (sym r.2 ∙ ap (λ y. picked (shown y)) (sym one) ∙ not_picked))
