-- What a query of one table answers.
use Rattle.std.proofs.Common.{◌^◌, ◌-◌, nat_le, slice_get, ◌≡◌, inl, inr, ℕ, List, [], ◌∷◌, ◌++◌, map, Bool, true, false, if◌then◌else◌, None, unwrap_or, flat_map, refl, sym, ap, subst, subst₂, ◌∙◌}
use Rattle.std.specs.List.{list_all}
use Rattle.std.proofs.lemmas.List.Sorted.{Contains-permutation, IsPermutation-map, IsPermutation-sym}
use Rattle.sqlite_value.specs.declared.keys.Key.{Key}
use Rattle.sqlite.specs.Order.{Row}
use Rattle.sqlite_sql.specs.Term.{Term, Env, eval_all, holds}
use Rattle.sqlite_sql.specs.Query.{IsAnswer, Output, output}
use Rattle.sqlite_sql.specs.Program.{overlay}
use Rattle.sqlite_trees.specs.Tree.{Trees}
use Rattle.sqlite_rules.specs.Lists.{Has}
use Rattle.sqlite_trees.proofs.ListLemmas.{map-map}
use Rattle.std.specs.List.Sorted.{IsPermutation}
use Rattle.sqlite_rules.proofs.ListLemmas.{has_left, has_right, has_either, has_contained, contains_had}
use Rattle.sql_tables.proofs.RowLemmas.{has_map, map_has}
pub use Rattle.sql_tables.specs.Asking.{plain_query, cells_of}

-- the row passes every term of WHERE
abbrev pub passes : List Term → Row → Row → Bool
passes filter params row = list_all (holds (params ∷ row ∷ [])) filter

no_tables : (db : Trees) (t : ℕ) → overlay db [] t ≡ db t
no_tables db t = elim (nat_le (2 ^ 31) t) as (λ b. unwrap_or (if b then slice_get [] (t - 2 ^ 31) else None) (db t) ≡ db t) [ true ↦ refl | false ↦ refl ]

module _ (filter : List Term) (params : Row) where
  abbrev found_at : Row → List Env
  found_at r = if passes filter params r then (params ∷ r ∷ []) ∷ [] else []

  all_found : ((r : Row) → passes filter params r ≡ true) → (rows : List Row) → flat_map found_at rows ≡ map (λ r. params ∷ r ∷ []) rows
  all_found all [] = refl
  all_found all (r ∷ rows) = ap (λ b. (if b then (params ∷ r ∷ []) ∷ [] else []) ++ flat_map found_at rows) (all r) ∙ ap (λ es. (params ∷ r ∷ []) ∷ es) (all_found all rows)

  found_from : (rows : List Row) (env : Env) → Has (flat_map found_at rows) env → (r : Row) × Has rows r × (passes filter params r ≡ true) × (env ≡ params ∷ r ∷ [])
  found_from [] env h = absurd h
  found_from (r ∷ rows) env h = elim (has_either (found_at r) _ env h) [
    | inl here ↦ go (passes filter params r) refl here
    | inr later ↦ let it = found_from rows env later in (it.0, inr it.1, it.2, it.3)
  ]
    where
      go : (b : Bool) → passes filter params r ≡ b → Has (if b then (params ∷ r ∷ []) ∷ [] else []) env → (x : Row) × Has (r ∷ rows) x × (passes filter params x ≡ true) × (env ≡ params ∷ x ∷ [])
      go true is (inl same) = (r, inl refl, is, same)
      go true is (inr none) = absurd none
      go false is none = absurd none

  found_has : (rows : List Row) (r : Row) → Has rows r → passes filter params r ≡ true → Has (flat_map found_at rows) (params ∷ r ∷ [])
  found_has [] r h p = absurd h
  found_has (x ∷ rows) r (inl is) p = has_left (found_at x) _ _ (subst (λ y. Has (found_at y) (params ∷ r ∷ [])) is (rw p (inl refl)))
  found_has (x ∷ rows) r (inr later) p = has_right (found_at x) _ _ (found_has rows r later p)

module _ (tree : ℕ) (filter project : List Term) (order : List (Term × Key)) (db : Trees) (params : Row) (rows : List Row)
    (a : IsAnswer (plain_query tree filter project order) (overlay db []) params rows) where
  staged : a.staged ≡ flat_map (found_at filter params) (db tree)
  staged = a.grouped ∙ ap (λ rows. flat_map (found_at filter params) rows) (no_tables db tree)

  pub answer_from : (x : Row) → Has rows x → (r : Row) × Has (db tree) r × (passes filter params r ≡ true) × (x ≡ cells_of project params r)
  answer_from x h =
      let o = map_has (λ (o : Output). o.1) a.ordered x (subst (λ xs. Has xs x) a.shown h) in
      let kept = has_contained a.kept o.0 (Contains-permutation a.ordered a.kept o.0 (IsPermutation-sym a.kept a.ordered a.same) (contains_had a.ordered o.0 o.1)) in
      let env = map_has (output (plain_query tree filter project order)) a.staged o.0 (subst (λ xs. Has xs o.0) a.distinct kept) in
      let r = found_from filter params (db tree) env.0 (subst (λ xs. Has xs env.0) staged env.1) in
      (r.0, r.1, r.2, o.2 ∙ ap (λ (o : Output). o.1) env.2 ∙ ap (λ env. eval_all project env) r.3)

  pub answer_has : (r : Row) → Has (db tree) r → passes filter params r ≡ true → Has rows (cells_of project params r)
  answer_has r h p =
      let env = found_has filter params (db tree) r h p in
      let out = has_map (output (plain_query tree filter project order)) a.staged _ (subst (λ xs. Has xs (params ∷ r ∷ [])) (sym staged) env) in
      let kept = subst (λ xs. Has xs (output (plain_query tree filter project order) (params ∷ r ∷ []))) (sym a.distinct) out in
      let ordered = has_contained a.ordered _ (Contains-permutation a.kept a.ordered _ a.same (contains_had a.kept _ kept)) in
      subst (λ xs. Has xs (cells_of project params r)) (sym a.shown) (has_map (λ (o : Output). o.1) a.ordered _ ordered)

  -- where each row passes, the answer has them all, as often as they are there
  pub answer_whole : ((r : Row) → passes filter params r ≡ true) → IsPermutation (map (cells_of project params) (db tree)) rows
  answer_whole all =
      let q = plain_query tree filter project order in
      let env = λ (r : Row). params ∷ r ∷ [] in
      let envs : a.staged ≡ map env (db tree) = staged ∙ all_found filter params all (db tree) in
      let kept : a.kept ≡ map (output q) (map env (db tree)) = a.distinct ∙ ap (map (output q)) envs in
      let cells : map (λ (o : Output). o.1) a.kept ≡ map (cells_of project params) (db tree) =
      ap (map (λ (o : Output). o.1)) kept ∙ map-map (λ (o : Output). o.1) (output q) (map env (db tree)) ∙ map-map (λ e. (output q e).1) env (db tree) in
      subst₂ (λ xs ys. IsPermutation xs ys) cells (sym a.shown) (IsPermutation-map (λ (o : Output). o.1) a.kept a.ordered a.same)

  -- each output is that of a row
  pub outputs_from : (o : Output) → Has a.ordered o → (r : Row) × (o ≡ output (plain_query tree filter project order) (params ∷ r ∷ []))
  outputs_from o h =
      let kept = has_contained a.kept o (Contains-permutation a.ordered a.kept o (IsPermutation-sym a.kept a.ordered a.same) (contains_had a.ordered o h)) in
      let env = map_has (output (plain_query tree filter project order)) a.staged o (subst (λ xs. Has xs o) a.distinct kept) in
      let r = found_from filter params (db tree) env.0 (subst (λ xs. Has xs env.0) staged env.1) in
      (r.0, env.2 ∙ ap (output (plain_query tree filter project order)) r.3)
