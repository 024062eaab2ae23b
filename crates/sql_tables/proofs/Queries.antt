-- What the queries answer, and that they commit nothing.
use Rattle.std.proofs.Common.{◌≡◌, ◌+◌, ◌<◌, ℕ, suc, zero, List, [], ◌∷◌, ◌++◌, length, map, slice_index_or, true, false, Bool, if◌then◌else◌, None, Ok, Err, refl, sym, ap, subst, subst₂, ◌∙◌, arith, IsSome, true≢false, inl, inr}
use Rattle.std.specs.Ordering.{is_lt}
use Rattle.std.specs.List.Sorted.{IsPermutation}
use Rattle.std.proofs.lemmas.List.{get_or-map, length-map, length-append}
use Rattle.sqlite_resolve.specs.Lowering.{Checked, and_then}
use Rattle.sqlite_resolve.specs.Compile.{compiled, planned, meaning, command, first, timed, with_command}
use Rattle.sqlite_syntax.specs.declared.statement.Parsed.{Parsed}
use Rattle.sqlite_resolve.specs.declared.error.CompileError.TheVariants.{NoSuchTable}
use Rattle.sqlite_resolve.specs.declared.compiled.Compiled.{Compiled}
use Rattle.sqlite_schema.specs.declared.command.Command.{Command}
use Rattle.sqlite_value.specs.declared.keys.Key.{Key}
use Rattle.sqlite_sql.specs.Term.{Term}
use Rattle.sqlite_sql.specs.Query.{Query, IsAnswer, Output, output_cmp, key_cmp}
use Rattle.sqlite_sql.specs.Program.{overlay}
use Rattle.sqlite.specs.declared.types.Value.TheVariants.{Null}
use Rattle.sqlite.specs.Order.{Row}
use Rattle.sqlite.specs.Command.TheVariants.{Select}
use Rattle.sqlite.specs.Schema.{Schema}
use Rattle.sqlite.specs.State.{State, Shown, ShowsRows, IsUnchanged, Survives, CommitsShowing}
use Rattle.sqlite.specs.Clock.{timed as with_time}
use Rattle.sqlite.specs.Listing.{understood, reads_listing, listing_schema, if_select, is_select}
use Rattle.sqlite.proofs.Callers.{IsPlain, command_of, reads_as}
use Rattle.sqlite.proofs.StateLemmas.{survives_weaker}
use Rattle.sqlite_rules.specs.Lists.{Has}
use Rattle.sql_tables.specs.Loading.{AreLoaded}
pub use Rattle.sql_tables.specs.Asking.{IsQuiet, Reads}
use Rattle.sql_tables.proofs.AnswerLemmas.{plain_query, answer_from, answer_has, answer_whole, cells_of, outputs_from}

-- ---- no query commits

quiet_under : (schema : Schema) (sql : List ℕ) (c : Compiled) → IsQuiet (first sql) → compiled schema sql ≡ Ok c → c.returning ≡ None
unfolding compiled planned meaning
quiet_under schema sql c quiet is = go (first sql) quiet is
  where
    last : (p : Parsed) (formats : _) (k : Checked Command) → and_then (and_then (and_then k (λ (it : Command). Ok (it, None))) (λ found. Ok (formats, found))) (λ plan. Ok (with_command p plan)) ≡ Ok c → c.returning ≡ None
    last p formats (Ok k) e = let f : with_command p (formats, (k, None)) ≡ c = cc in sym (ap (λ (x : Compiled). x.returning) f)
    last p formats (Err x) e = absurd (let f = e in cc)

    go : (r : Checked Parsed) → IsQuiet r → and_then r (λ p. and_then (planned schema p) (λ plan. Ok (with_command p plan))) ≡ Ok c → c.returning ≡ None
    go (Err x) q e = absurd (let f = e in cc)
    go (Ok p) q e = last p (timed schema p.formats p.statement) (command schema p.formats _ p.statement) (rw (q schema _) at e)

shown_by_select : (r : Checked Compiled) (c : Compiled) → if_select r ≡ Ok c → r ≡ Ok c
shown_by_select (Err e) c is = absurd (let f = is in cc)
shown_by_select (Ok k) c is = go (is_select k.command) is
  where
    go : (b : Bool) → ◌≡◌ {A = Checked Compiled} (if b then Ok k else Err NoSuchTable) (Ok c) → ◌≡◌ {A = Checked Compiled} (Ok k) (Ok c)
    go true e = e
    go false e = absurd (let f = e in cc)

quiet : (schema : Schema) (sql : List ℕ) (c : Compiled) → IsQuiet (first sql) → understood schema sql ≡ Ok c → c.returning ≡ None
unfolding understood
quiet schema sql c q is = go (reads_listing schema sql) is
  where
    go : (b : Bool) → (if b then if_select (compiled listing_schema sql) else compiled schema sql) ≡ Ok c → c.returning ≡ None
    go true e = quiet_under listing_schema sql c q (shown_by_select (compiled listing_schema sql) c e)
    go false e = quiet_under schema sql c q e

pub commits_nothing : (sql : List ℕ) (params : Row) (old new : State) → IsQuiet (first sql) → Survives old new (CommitsShowing sql params old) → Survives old new (λ _. ⊥)
unfolding CommitsShowing
commits_nothing sql params old new q = survives_weaker old new _ _ (λ _ db h. true≢false (sym (subst IsSome (quiet old.now.schema sql h.0 q h.1.is) h.2)))

-- ---- what a query of one table answers

index_at : {X : Type 0} (before rest : List X) (x d : X) → slice_index_or (before ++ x ∷ rest) (length before) d ≡ x
index_at [] rest x d = refl
index_at (y ∷ before) rest x d = index_at before rest x d

index_after : {X : Type 0} (before rest : List X) (x y d : X) → slice_index_or (before ++ x ∷ y ∷ rest) (suc (length before)) d ≡ y
index_after [] rest x y d = refl
index_after (z ∷ before) rest x y d = index_after before rest x y d

has_at : {X : Type 0} (xs : List X) (k : ℕ) (d : X) → k < length xs → Has xs (slice_index_or xs k d)
has_at [] k d below = absurd (omega (arith, below))
has_at (x ∷ xs) zero d below = inl refl
has_at (x ∷ xs) (suc k) d below = inr (has_at xs k d (omega (arith, below)))

module _ (schema : Schema) (sql : List ℕ) (tree : ℕ) (terms : List Term) (order : List (Term × Key)) (names : List (List ℕ)) (shown : Row → Row) (keys : List Key)
    (is : command_of (understood schema sql) ≡ Select (record { lets = []; body = plain_query tree [] terms order }) names) (plain : IsPlain (understood schema sql)) (unlisted : reads_listing schema sql ≡ false)
    (cells : (r : Row) → cells_of terms [] r ≡ shown r)
    (keyed : (r s : Row) → key_cmp 0 (map (λ k. k.1) order) (cells_of (map (λ k. k.0) order) [] r) (cells_of (map (λ k. k.0) order) [] s) ≡ key_cmp 0 keys (shown r) (shown s)) where
  abbrev the_query : Query
  the_query = plain_query tree [] terms order

  pub loads : (old new : State) (rows : List Row) → old.now.schema ≡ schema → Shown sql [] old new rows → AreLoaded shown keys (old.now.trees tree) rows
  loads old new rows has h =
      let read = reads_as sql [] old new schema has (Select (record { lets = []; body = the_query }) names) is plain unlisted rows h in
      let answer : IsAnswer the_query (overlay old.now.trees []) [] rows = read.answer Null in
      record {
        from = λ x h. let r = answer_from tree [] terms order old.now.trees [] rows answer x h in (r.0, r.1, r.3 ∙ cells r.0);
        once = subst (λ f. IsPermutation (map f (old.now.trees tree)) rows) (λ i r. cells r i) (answer_whole tree [] terms order old.now.trees [] rows answer (λ r. refl));
        each = λ r h. subst (Has rows) (cells r) (answer_has tree [] terms order old.now.trees [] rows answer r h refl);
        sorted = λ before a b rest e.
            let os = answer.ordered in
            let all : map (λ (o : Output). o.1) os ≡ before ++ a ∷ b ∷ rest = sym answer.shown ∙ e in
            let k = length before in
            let d : Output = ([], []) in
            let long : suc k < length os = omega (arith, ap length all, length-map os (λ (o : Output). o.1), length-append before (a ∷ b ∷ rest)) in
            let one = slice_index_or os k d in
            let two = slice_index_or os (suc k) d in
            let is_a : one.1 ≡ a = sym (get_or-map (λ (o : Output). o.1) os k d [] (omega (arith, long))) ∙ ap (λ (rs : List Row). slice_index_or rs k []) all ∙ index_at before (b ∷ rest) a [] in
            let is_b : two.1 ≡ b = sym (get_or-map (λ (o : Output). o.1) os (suc k) d [] long) ∙ ap (λ (rs : List Row). slice_index_or rs (suc k) []) all ∙ index_after before rest a b [] in
            let r = outputs_from tree [] terms order old.now.trees [] rows answer one (has_at os k d (omega (arith, long))) in
            let s = outputs_from tree [] terms order old.now.trees [] rows answer two (has_at os (suc k) d long) in
            let next : k + 1 ≡ suc k = omega arith in
            let up : is_lt (output_cmp the_query two one) ≡ false = subst (λ n. is_lt (output_cmp the_query (slice_index_or os n d) one) ≡ false) next (answer.sorted k d (omega arith) (omega (arith, long))) in
            let shown_r : shown r.0 ≡ a = sym (cells r.0) ∙ sym (ap (λ (o : Output). o.1) r.1) ∙ is_a in
            let shown_s : shown s.0 ≡ b = sym (cells s.0) ∙ sym (ap (λ (o : Output). o.1) s.1) ∙ is_b in
            subst₂ (λ y x. is_lt (key_cmp 0 keys y x) ≡ false) shown_s shown_r
            (subst (λ o. is_lt o ≡ false) (keyed s.0 r.0) (subst₂ (λ y x. is_lt (output_cmp the_query y x) ≡ false) s.1 r.1 up));
      }

  pub loads_same : (old new : State) (rows : List Row) → old.now.schema ≡ schema → Shown sql [] old new rows → IsUnchanged old new
  unfolding Shown
  loads_same old new rows has h =
      let known = sym h.1.is ∙ ap (λ s. understood s sql) has in
      let none : h.0.returning ≡ None = (subst IsPlain (sym known) plain).0 in
      (subst (ShowsRows old new sql h.0 (with_time [] h.0.formats h.1.now) rows) none h.2).3

-- ---- a query by the facts of its text

module _ {schema : Schema} {sql : List ℕ} {tree : ℕ} {shown : Row → Row} {keys : List Key} (reads : Reads schema sql tree shown keys) where
  pub read_rows : (old new : State) (rows : List Row) → old.now.schema ≡ schema → Shown sql [] old new rows → AreLoaded shown keys (old.now.trees tree) rows
  read_rows = loads schema sql tree reads.terms reads.order reads.names shown keys reads.is reads.plain reads.unlisted reads.cells reads.keyed

  pub read_same : (old new : State) (rows : List Row) → old.now.schema ≡ schema → Shown sql [] old new rows → IsUnchanged old new
  read_same = loads_same schema sql tree reads.terms reads.order reads.names shown keys reads.is reads.plain reads.unlisted reads.cells reads.keyed

  pub read_quietly : (old new : State) → Survives old new (CommitsShowing sql [] old) → Survives old new (λ _. ⊥)
  read_quietly old new = commits_nothing sql [] old new reads.quiet
