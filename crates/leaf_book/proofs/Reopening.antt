-- What the next open answers.
use Rattle.std.proofs.Common.{◌≡◌, ◌⊎◌, inl, inr, [], IsTrue, IfOk, Result, Ok, Err, refl, sym, ap, subst, ◌∙◌}
use Rattle.std.proofs.Math.Logic.{∥∥₁_map}
use Rattle.sqlite.specs.Effect.{Database, IsDatabase}
use Rattle.sqlite.specs.State.{IsLive, State}
use Rattle.sqlite.specs.Schema.{Schema}
use Rattle.sqlite_trees.specs.Tree.{Trees}
use Rattle.sql_tables.proofs.Listed.{same_tables}
use Rattle.leaf_plans.specs.Book.{AreSame, Book, IsBook, no_book}
use Rattle.leaf_book.specs.declared.faults.BookFault.{BookFault}
use Rattle.leaf_book.specs.declared.faults.BookFault.TheVariants as fault
use Rattle.leaf_book.specs.Schema.{HasBoth, no_schema}
use Rattle.leaf_book.specs.Rows.{Begins, HoldsBook, HoldsWhole, OpensTo, Recovers, Reopens, TreesStand}
use Rattle.leaf_book.proofs.BookLemmas.{same_book}

-- no reading of the trees of a database with both tables finds none
both_or_none : (d e : Database) → IsDatabase d → IsDatabase e → d.trees ≡ e.trees → HasBoth d.schema → e.schema ≡ no_schema → ⊥
both_or_none d e one two same has none =
    let tables : d.schema.tables ≡ [] = same_tables d e one two same ∙ ap (λ (s : Schema). s.tables) none in
    let there = sym (ap (λ (s : Schema). s.tables) has.1) ∙ tables in
    cc

same_itself : (b : Book) → AreSame b b
same_itself b = record { signers = λ s. (λ h. h, λ h. h); leaves = λ e. (λ h. h, λ h. h) }

pub opened_same : (trees : Trees) (b : Book) (r : Result Book BookFault) → IsBook b → TreesStand trees b → OpensTo trees r → Reopens b r
opened_same trees b (Ok c) right (d, dt, ds, inl (has, holds)) (is, (e, et, es, inl (has', holds'))) =
    same_book trees b c (subst (λ (t : Trees). HoldsBook t b) dt holds) (subst (λ (t : Trees). HoldsBook t c) et holds')
opened_same trees b (Ok c) right (d, dt, ds, inl (has, holds)) (is, (e, et, es, inr (none, empty))) = absurd (both_or_none d e ds es (dt ∙ sym et) has none)
opened_same trees b (Ok c) right (d, dt, ds, inr (none, empty)) (is, (e, et, es, inl (has, holds))) = absurd (both_or_none e d es ds (et ∙ sym dt) has none)
opened_same trees b (Ok c) right (d, dt, ds, inr (none, empty)) (is, (e, et, es, inr (none', empty'))) = subst (AreSame b) (empty ∙ sym empty') (same_itself b)
opened_same trees b (Err fault.Damaged) right (d, dt, ds, inl (has, holds)) (e, et, es, has', none) = absurd (none b right (subst (λ (t : Trees). HoldsBook t b) (dt ∙ sym et) holds))
opened_same trees b (Err fault.Damaged) right (d, dt, ds, inr (none, empty)) (e, et, es, has, other) = absurd (both_or_none e d es ds (et ∙ sym dt) has none)
opened_same trees b (Err fault.LeavesSpent) right stands opens = absurd opens
opened_same trees b (Err fault.UnknownKey) right stands opens = absurd opens
opened_same trees b (Err fault.OtherTree) right stands opens = absurd opens
opened_same trees b (Err fault.Database) right stands opens = inl refl
opened_same trees b (Err fault.OutOfMemory) right stands opens = inr refl

pub stands_whole : (trees : Trees) (b : Book) → HoldsWhole trees b → TreesStand trees b
stands_whole trees b whole = (whole.0, whole.1, whole.2, inl (whole.3, subst (λ (t : Trees). HoldsBook t b) (sym whole.1) whole.4))

pub recovers : (trees : Trees) (b : Book) → IsBook b → HoldsWhole trees b → Recovers trees b
recovers trees b right whole = record { whole = whole; reopens = λ r opens. opened_same trees b r right (stands_whole trees b whole) opens }

-- what stood for a book at rest stands for it, whether or not an opening has made the tables
pub stands_still : (s : State) (b : Book) (trees : Trees) → IsLive s → IsTrue s.is_open → s.now ≡ s.committed → TreesStand s.committed.trees b → (trees ≡ s.committed.trees) ⊎ Begins s trees → TreesStand trees b
stands_still s b trees live is_open settled stands (inl same) = subst (λ (t : Trees). TreesStand t b) (sym same) stands
stands_still s b trees live is_open settled (d, dt, ds, inl (has, holds)) (inr begins) =
    absurd (both_or_none d s.committed ds (live is_open).1 dt has (subst (λ (e : Database). e.schema ≡ no_schema) settled (begins is_open).0))
stands_still s b trees live is_open settled (d, dt, ds, inr (none, empty)) (inr begins) = subst (TreesStand trees) (sym empty) (stands_whole trees no_book (begins is_open).1)

-- what follows of an answer, where no more is known than that there is something from which it follows
pub each_ok : {A E M : Type 0} (Q : A → Type 0) (r : Result A E) → ∥ M ∥₁ → (M → IfOk r Q) → IfOk r (λ a. ∥ Q a ∥₁)
each_ok Q (Ok a) m f = ∥∥₁_map m f
each_ok Q (Err e) m f = tt
