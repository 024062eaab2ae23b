-- What one INSERT outside a transaction does to the book, and one look at it.
use Rattle.std.proofs.Common.{◌≡◌, ◌⊎◌, inl, inr, ℕ, pos, List, [], ◌∷◌, ◌++◌, true, cond, None, Ok, Err, IsTrue, refl, sym, ap, subst, ◌∙◌, arith}
use Rattle.sqlite.specs.declared.types.Value.TheVariants.{Null, Int, Text, Blob}
use Rattle.sqlite.specs.Order.{Row}
use Rattle.sqlite_rules.specs.Edit.{edit_of, next_rowid, put_all, are_fresh}
use Rattle.sqlite_rules.specs.declared.error.Rowids.TheVariants.{Chosen}
use Rattle.sqlite_rules.proofs.ListLemmas.{has_left, has_right, has_either}
use Rattle.sqlite_rules.proofs.TableLemmas.{put_all_has, put_all_keeps, put_all_adds}
use Rattle.sqlite.specs.declared.error.Error.{Error}
use Rattle.sqlite.specs.Source.TheVariants.{Values}
use Rattle.sqlite.specs.Command.TheVariants.{Insert}
use Rattle.sqlite_trees.specs.Tree.{Trees}
use Rattle.sqlite.specs.Does.{Tally, Does}
use Rattle.sqlite.specs.Effect.{Database}
use Rattle.sqlite.specs.State.{State, Executes, CommitsBy, IsUnchanged, IsRolledBack}
use Rattle.sqlite.specs.Schema.{Schema}
use Rattle.sqlite.specs.Listing.{understood}
use Rattle.sqlite.proofs.Callers.{statement_of, runs_as}
use Rattle.sql_tables.specs.Described.{followed, table_of}
use Rattle.sql_tables.proofs.Insert.{inserts_by, enforced}
use Rattle.sql_tables.proofs.References.{unreferenced}
use Rattle.sql_tables.proofs.Statements.{cast_int, cast_null}
use Rattle.lms.specs.declared.Params.{Params}
use Rattle.lms.specs.Parameters.{height, ots_code, signing_type}
use Rattle.leaf_plans.specs.Book.{Book, LeafRow, Signer, with_leaf, with_signer}
use Rattle.leaf_book.specs.Rows.{AreRowsOf, HoldsBook, HoldsWhole, IsLeafFrom, IsRecorded, IsSignerFrom}
use Rattle.leaf_book.specs.Schema.{HasBoth, leaf_table, signer_table, two}
use Rattle.leaf_book.proofs.Autocommit.{commits_as, left_by_error}
use Rattle.leaf_book.proofs.Texts.{insert_leaf, insert_leaf_means, insert_signer, insert_signer_means, three_values}

-- ---- a row more

module _ {V : Type 0} (IsRow : Row → V → Type 0) (rows : List Row) (vs : List V) (are : AreRowsOf IsRow rows vs) where
  pub one_more : (row : Row) (v : V) → IsRow row v → are_fresh rows (row ∷ []) ≡ true → AreRowsOf IsRow (put_all rows (row ∷ [])) (vs ++ v ∷ [])
  one_more row v is fresh = record {
    each = λ x h. elim (put_all_has (row ∷ []) rows x h) [
      | inl (inl here) ↦ (v, has_right vs _ v (inl refl), subst (λ y. IsRow y v) (sym here) is)
      | inl (inr none) ↦ absurd none
      | inr was ↦ let it = are.each x was in (it.0, has_left vs _ it.0 it.1, it.2)
    ];
    all = λ w h. elim (has_either vs (v ∷ []) w h) [
      | inl was ↦ let it = are.all w was in (it.0, put_all_keeps (row ∷ []) rows it.0 fresh it.1, it.2)
      | inr (inl here) ↦ (row, put_all_adds (row ∷ []) rows row fresh (inl refl), subst (IsRow row) (sym here) is)
      | inr (inr none) ↦ absurd none
    ];
  }

-- ---- the two INSERTs, whether they were made or a crash made them

abbrev pub leaf_params : List ℕ → ℕ → List ℕ → Row
leaf_params key leaf message = Text key ∷ Int (pos leaf) ∷ Blob message ∷ []

abbrev pub signer_params : List ℕ → Params → Row
signer_params key params = Text key ∷ Int (pos (ots_code params.ots)) ∷ Int (pos (height (signing_type params.height))) ∷ []

abbrev leaf_text : Schema → List ℕ
leaf_text further = statement_of insert_leaf (understood (followed two further) insert_leaf)

abbrev signer_text : Schema → List ℕ
signer_text further = statement_of insert_signer (understood (followed two further) insert_signer)

puts_leaf : (limit : _) (before after : Database) (key : List ℕ) (leaf : ℕ) (message : List ℕ) (t : List ℕ) (tally : Tally) (b : Book) → HasBoth before.schema → HoldsBook before.trees b
    → Does limit enforced (leaf_params key leaf message) before t None (Insert 1 (Values three_values 4)) (Ok (tally, after)) → HoldsBook after.trees (with_leaf key leaf message b) × HasBoth after.schema
puts_leaf limit before after key leaf message t tally b has holds does =
    let free = unreferenced two has.0 1 (omega arith) has.2 in
    let a = inserts_by (followed two has.0) 1 _ _ _ _ _ 2 refl free limit before after (leaf_params key leaf message) three_values 4 t tally has.1 does in
    let db = before.trees in
    let e : LeafRow = record { key = key; leaf = leaf; message = message } in
    let row : Row = Int (next_rowid (db 2)) ∷ leaf_params key leaf message in
    let edit = edit_of db (table_of leaf_table 2) [] Chosen 0 ((Null ∷ leaf_params key leaf message) ∷ []) in
    let news : edit.news ≡ row ∷ [] = rw (cast_null, cast_int (pos leaf)) refl in
    let fresh : are_fresh (db 2) (row ∷ []) ≡ true = subst (λ n. are_fresh (db 2) n ≡ true) news a.0.fresh in
    let rows : after.trees 2 ≡ put_all (db 2) (row ∷ []) = a.0.rows ∙ ap (put_all (db 2)) news in
    let other : after.trees 0 ≡ db 0 = a.0.tables.0 (λ same. cc) in (
      record {
        signers = subst (λ r. AreRowsOf (IsSignerFrom 1) r b.signers) (sym other) holds.signers;
        leaves = subst (λ r. AreRowsOf (IsLeafFrom 1) r (b.leaves ++ e ∷ [])) (sym rows) (one_more (IsLeafFrom 1) (db 2) b.leaves holds.leaves row e (refl, refl, refl) fresh);
      },
      (has.0, a.1, has.2),
    )

puts_signer : (limit : _) (before after : Database) (key : List ℕ) (params : Params) (t : List ℕ) (tally : Tally) (b : Book) → HasBoth before.schema → HoldsBook before.trees b
    → Does limit enforced (signer_params key params) before t None (Insert 0 (Values three_values 4)) (Ok (tally, after)) → HoldsBook after.trees (with_signer key params b) × HasBoth after.schema
puts_signer limit before after key params t tally b has holds does =
    let free = unreferenced two has.0 0 (omega arith) has.2 in
    let a = inserts_by (followed two has.0) 0 _ _ _ _ _ 0 refl free limit before after (signer_params key params) three_values 4 t tally has.1 does in
    let db = before.trees in
    let s : Signer = record { key = key; params = params } in
    let row : Row = Int (next_rowid (db 0)) ∷ signer_params key params in
    let edit = edit_of db (table_of signer_table 0) [] Chosen 0 ((Null ∷ signer_params key params) ∷ []) in
    let news : edit.news ≡ row ∷ [] = rw (cast_null, cast_int (pos (ots_code params.ots)), cast_int (pos (height (signing_type params.height)))) refl in
    let fresh : are_fresh (db 0) (row ∷ []) ≡ true = subst (λ n. are_fresh (db 0) n ≡ true) news a.0.fresh in
    let rows : after.trees 0 ≡ put_all (db 0) (row ∷ []) = a.0.rows ∙ ap (put_all (db 0)) news in
    let other : after.trees 2 ≡ db 2 = a.0.tables.1.0 (λ same. cc) in (
      record {
        signers = subst (λ r. AreRowsOf (IsSignerFrom 1) r (b.signers ++ s ∷ [])) (sym rows) (one_more (IsSignerFrom 1) (db 0) b.signers holds.signers row s (refl, refl, refl) fresh);
        leaves = subst (λ r. AreRowsOf (IsLeafFrom 1) r b.leaves) (sym other) holds.leaves;
      },
      (has.0, a.1, has.2),
    )

pub leaf_kept : (old new : State) (key : List ℕ) (leaf : ℕ) (message : List ℕ) (count : ℕ) (b : Book) → IsRecorded old b → Executes insert_leaf (leaf_params key leaf message) old new (Ok count) → IsRecorded new (with_leaf key leaf message b)
leaf_kept old new key leaf message count b is h =
    let further = is.schema.0 in
    let w = runs_as insert_leaf (leaf_params key leaf message) old new (followed two further) is.schema.1 (Insert 1 (Values three_values 4)) (insert_leaf_means further).0 (insert_leaf_means further).1 count h in
    let a = puts_leaf old.step_limit old.now new.now key leaf message (leaf_text further) w.tally b is.schema is.holds w.changed in
    record {
      is_open = w.shown.is_open;
      autocommit = w.shown.mode ∙ is.autocommit;
      schema = a.1;
      settled = sym (subst (λ t. new.committed ≡ cond t old.committed new.now) is.autocommit w.shown.committed_is);
      holds = a.0;
    }

pub signer_kept : (old new : State) (key : List ℕ) (params : Params) (count : ℕ) (b : Book) → IsRecorded old b → Executes insert_signer (signer_params key params) old new (Ok count) → IsRecorded new (with_signer key params b)
signer_kept old new key params count b is h =
    let further = is.schema.0 in
    let w = runs_as insert_signer (signer_params key params) old new (followed two further) is.schema.1 (Insert 0 (Values three_values 4)) (insert_signer_means further).0 (insert_signer_means further).1 count h in
    let a = puts_signer old.step_limit old.now new.now key params (signer_text further) w.tally b is.schema is.holds w.changed in
    record {
      is_open = w.shown.is_open;
      autocommit = w.shown.mode ∙ is.autocommit;
      schema = a.1;
      settled = sym (subst (λ t. new.committed ≡ cond t old.committed new.now) is.autocommit w.shown.committed_is);
      holds = a.0;
    }

pub may_keep_leaf : (old : State) (key : List ℕ) (leaf : ℕ) (message : List ℕ) (b : Book) (db : Trees) → CommitsBy insert_leaf (leaf_params key leaf message) old db → IsRecorded old b → HoldsWhole db (with_leaf key leaf message b)
may_keep_leaf old key leaf message b db h is = elim (commits_as insert_leaf (leaf_params key leaf message) old (followed two is.schema.0) is.schema.1 (Insert 1 (Values three_values 4)) (insert_leaf_means is.schema.0).0 (insert_leaf_means is.schema.0).1 db h) [
  | inl other ↦ absurd (elim other.0 [ inl c ↦ cc | inr r ↦ let e = r.2 in cc ])
  | inr write ↦
      let put = puts_leaf old.step_limit old.now write.2 key leaf message (leaf_text is.schema.0) write.1 b is.schema is.holds write.3 in
      (write.2, sym write.5, write.4, put.1, subst (λ (d : Trees). HoldsBook d (with_leaf key leaf message b)) (sym write.5) put.0)
]

pub may_keep_signer : (old : State) (key : List ℕ) (params : Params) (b : Book) (db : Trees) → CommitsBy insert_signer (signer_params key params) old db → IsRecorded old b → HoldsWhole db (with_signer key params b)
may_keep_signer old key params b db h is = elim (commits_as insert_signer (signer_params key params) old (followed two is.schema.0) is.schema.1 (Insert 0 (Values three_values 4)) (insert_signer_means is.schema.0).0 (insert_signer_means is.schema.0).1 db h) [
  | inl other ↦ absurd (elim other.0 [ inl c ↦ cc | inr r ↦ let e = r.2 in cc ])
  | inr write ↦
      let put = puts_signer old.step_limit old.now write.2 key params (signer_text is.schema.0) write.1 b is.schema is.holds write.3 in
      (write.2, sym write.5, write.4, put.1, subst (λ (d : Trees). HoldsBook d (with_signer key params b)) (sym write.5) put.0)
]

-- ---- where nothing was written

pub recorded_same : (old new : State) (b : Book) → IsUnchanged old new → IsRecorded old b → IsRecorded new b
recorded_same old new b same is = record {
  is_open = same.0.is_open;
  autocommit = same.0.mode ∙ is.autocommit;
  schema = subst (λ (d : Database). HasBoth d.schema) (sym same.0.now_is) is.schema;
  settled = same.0.now_is ∙ is.settled ∙ sym same.0.committed_is;
  holds = subst (λ (d : Database). HoldsBook d.trees b) (sym same.0.now_is) is.holds;
}

pub recorded_back : (old new : State) (b : Book) → IsTrue new.is_open → IsRolledBack old new → IsRecorded old b → IsRecorded new b
recorded_back old new b stays back is =
    let both = back.undone stays in
    let now : new.now ≡ old.now = both.0 ∙ sym is.settled in
    record {
      is_open = stays;
      autocommit = back.autocommit;
      schema = subst (λ (d : Database). HasBoth d.schema) (sym now) is.schema;
      settled = both.0 ∙ sym both.1;
      holds = subst (λ (d : Database). HoldsBook d.trees b) (sym now) is.holds;
    }

pub looked : (old new : State) (b : Book) → IsTrue new.is_open → IsUnchanged old new ⊎ IsRolledBack old new → IsRecorded old b → IsRecorded new b
looked old new b stays (inl same) is = recorded_same old new b same is
looked old new b stays (inr back) is = recorded_back old new b stays back is

pub recorded_still : (sql : List ℕ) (params : Row) (old new : State) (error : Error) (b : Book) → IsTrue new.is_open → IsRecorded old b → Executes sql params old new (Err error) → IsRecorded new b
recorded_still sql params old new error b stays is h = looked old new b stays (left_by_error sql params old new error h) is
