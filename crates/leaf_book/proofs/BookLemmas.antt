-- The rows of a book, and what a statement makes of them.
use Rattle.std.proofs.Common.{◌≡◌, List, [], false, sym, subst, ◌∙◌, ap}
use Rattle.sqlite.specs.Order.{Row}
use Rattle.sqlite_trees.specs.Tree.{Trees}
use Rattle.sqlite_rules.specs.Lists.{Has}
use Rattle.sql_tables.specs.Loading.{AreLoaded}
use Rattle.sqlite.specs.Effect.{Database, IsDatabase}
use Rattle.sqlite.specs.State.{IsLive, State, Shows}
use Rattle.sql_tables.specs.Making.{IsMade}
use Rattle.sql_tables.proofs.Shapes.{has_all_alone}
use Rattle.leaf_book.specs.Schema.{HasBoth, the_schema, two}
use Rattle.leaf_book.specs.steps.Loading.{AreLeaves, AreSigners, three_cells}
use Rattle.leaf_book.specs.steps.Making.{nowhere}
use Rattle.leaf_plans.specs.Book.{AreSame, Book, IsBook, LeafRow, Signer, no_book}
use Rattle.leaf_book.specs.Rows.{AreRowsOf, HoldsBook, HoldsWhole, IsLeafFrom, IsRecorded, IsSignerFrom}
use Rattle.leaf_book.proofs.ReadLemmas.{leaf_is, signer_is}

module _ {V : Type 0} (IsRow : Row → V → Type 0) (one : (x : Row) (v w : V) → IsRow x v → IsRow x w → v ≡ w) where
  pub goes_over : (rows : List Row) (vs ws : List V) → AreRowsOf IsRow rows vs → AreRowsOf IsRow rows ws → (v : V) → Has vs v → Has ws v
  goes_over rows vs ws a b v h =
      let row = a.all v h in
      let its = b.each row.0 row.1 in
      subst (Has ws) (one row.0 its.0 v its.2 row.2) its.1

pub same_book : (trees : Trees) (b c : Book) → HoldsBook trees b → HoldsBook trees c → AreSame b c
same_book trees b c one two = record {
  signers = λ s. (
    goes_over (IsSignerFrom 1) (λ x. signer_is 1 x) (trees 0) b.signers c.signers one.signers two.signers s,
    goes_over (IsSignerFrom 1) (λ x. signer_is 1 x) (trees 0) c.signers b.signers two.signers one.signers s,
  );
  leaves = λ e. (
    goes_over (IsLeafFrom 1) (λ x. leaf_is 1 x) (trees 2) b.leaves c.leaves one.leaves two.leaves e,
    goes_over (IsLeafFrom 1) (λ x. leaf_is 1 x) (trees 2) c.leaves b.leaves two.leaves one.leaves e,
  );
}

-- ---- what a query answers

module _ {V : Type 0} (Answered Stored : Row → V → Type 0) (there : (r : Row) (v : V) → Answered (three_cells r) v → Stored r v) (back : (r : Row) (v : V) → Stored r v → Answered (three_cells r) v)
    (stored rows : List Row) (loaded : AreLoaded three_cells [] stored rows) (vs : List V) where
  pub as_stored : AreRowsOf Answered rows vs → AreRowsOf Stored stored vs
  as_stored are = record {
    each = λ x h. let it = are.each (three_cells x) (loaded.each x h) in (it.0, it.1, there x it.0 it.2);
    all = λ v h.
        let it = are.all v h in
        let r = loaded.from it.0 it.1 in
        (r.0, r.1, there r.0 v (subst (λ y. Answered y v) r.2 it.2));
  }

  pub as_answered : AreRowsOf Stored stored vs → AreRowsOf Answered rows vs
  as_answered are = record {
    each = λ x h.
        let r = loaded.from x h in
        let it = are.each r.0 r.1 in
        (it.0, it.1, subst (λ y. Answered y it.0) (sym r.2) (back r.0 it.0 it.2));
    all = λ v h. let it = are.all v h in (three_cells it.0, loaded.each it.0 it.1, back it.0 v it.2);
  }

pub book_right : (ss : List Signer) (es : List LeafRow) → AreSigners ss → AreLeaves ss es → IsBook (record { signers = ss; leaves = es })
book_right ss es signers leaves = record { ids = signers.ids; one_signer = signers.one; known = leaves.known; one_message = leaves.one_message; one_leaf = leaves.one_leaf }

pub signers_right : (b : Book) → IsBook b → AreSigners b.signers
signers_right b is = record { ids = is.ids; one = is.one_signer }

-- ---- new tables

none_of : {V : Type 0} (IsRow : Row → V → Type 0) (rows : List Row) → rows ≡ [] → AreRowsOf IsRow rows []
none_of IsRow rows none = subst (λ rs. AreRowsOf IsRow rs []) (sym none) (record { each = λ x h. absurd h; all = λ v h. absurd h })

pub made_book : (s : State) → IsMade nowhere the_schema s → HoldsBook s.now.trees no_book
made_book s is = record { signers = none_of (IsSignerFrom 1) (s.now.trees 0) is.holds.0; leaves = none_of (IsLeafFrom 1) (s.now.trees 2) is.holds.1.0 }

pub whole_book : (s : State) (trees : Trees) → s.now.trees ≡ trees → IsDatabase s.now → IsMade nowhere the_schema s → HoldsWhole trees no_book
whole_book s trees same sound is = (s.now, same, sound, subst HasBoth (sym is.schema_is) (has_all_alone two), subst (λ (d : Trees). HoldsBook d no_book) same (made_book s is))

-- at rest: the last commit is whole
pub rests_whole : (s : State) (b : Book) (trees : Trees) → IsLive s → IsRecorded s b → s.now.trees ≡ trees → HoldsWhole trees b
rests_whole s b trees live is same = (s.now, same, (live is.is_open).0, is.schema, subst (λ (d : Trees). HoldsBook d b) same is.holds)

pub committed : (tx end : State) → IsMade nowhere the_schema tx → Shows tx end tx.now tx.now false → IsRecorded end no_book
committed tx end is shows = record {
  is_open = shows.is_open;
  autocommit = shows.mode;
  schema = subst HasBoth (sym (ap (λ (d : Database). d.schema) shows.now_is ∙ is.schema_is)) (has_all_alone two);
  settled = shows.now_is ∙ sym shows.committed_is;
  holds = subst (λ (d : Database). HoldsBook d.trees no_book) (sym shows.now_is) (made_book tx is);
}
