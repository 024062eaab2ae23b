-- What the texts mean, whatever stands behind the two tables.
use Rattle.std.proofs.Common.{List, ℕ, zero, suc, [], ◌∷◌, codes, refl, arith}
use Rattle.sqlite_tied.specs.Compute.{everything}
use Rattle.sqlite.specs.Term.{Term, lit, col}
use Rattle.sqlite.specs.Schema.{Schema}
use Rattle.sqlite.specs.Source.TheVariants.{Values}
use Rattle.sqlite.specs.Command.TheVariants.{Insert}
use Rattle.sqlite.specs.declared.types.Value.TheVariants.{Null}
use Rattle.sqlite.specs.Order.{Row, column}
use Rattle.sqlite.specs.Listing.{understood}
use Rattle.sql_tables.specs.Described.{AllMake, followed, table_of}
use Rattle.sql_tables.proofs.Editing.{Means}
use Rattle.sql_tables.proofs.Queries.{Reads}
use Rattle.leaf_book.specs.Schema.{leaf_table, signer_table, two}
use Rattle.leaf_book.specs.steps.Loading.{three_cells}

-- ---- CREATE TABLE

pub all_make : AllMake two
unfolding understood everything
all_make zero few = ((refl, refl, refl, table_of signer_table 0, refl, refl, refl), refl)
all_make (suc zero) few = ((refl, refl, refl, table_of leaf_table 0, refl, refl, refl), refl)
all_make (suc (suc n)) few = absurd (omega (arith, few))

-- ---- INSERT

abbrev pub three_values : List Term
three_values = lit Null ∷ col 0 0 ∷ col 0 1 ∷ col 0 2 ∷ []

abbrev pub insert_signer : List ℕ
insert_signer = codes "INSERT INTO signer (key, ots, height) VALUES (?1, ?2, ?3)"

pub insert_signer_means : Means two insert_signer (Insert 0 (Values three_values 4))
unfolding understood everything
insert_signer_means further = (refl, (refl, refl))

abbrev pub insert_leaf : List ℕ
insert_leaf = codes "INSERT INTO leaf (key, leaf, message) VALUES (?1, ?2, ?3)"

pub insert_leaf_means : Means two insert_leaf (Insert 1 (Values three_values 4))
unfolding understood everything
insert_leaf_means further = (refl, (refl, refl))

-- ---- SELECT

abbrev pub select_signer : List ℕ
select_signer = codes "SELECT key, ots, height FROM signer"

pub reads_signer : (further : Schema) → Reads (followed two further) select_signer 0 three_cells []
unfolding understood everything
reads_signer further = record {
  terms = col 1 1 ∷ col 1 2 ∷ col 1 3 ∷ [];
  order = [];
  names = codes "key" ∷ codes "ots" ∷ codes "height" ∷ [];
  is = refl;
  plain = (refl, refl);
  unlisted = refl;
  quiet = λ _ _. refl;
  cells = λ r. refl;
  keyed = λ r s. refl;
}

abbrev pub select_leaf : List ℕ
select_leaf = codes "SELECT key, leaf, message FROM leaf"

pub reads_leaf : (further : Schema) → Reads (followed two further) select_leaf 2 three_cells []
unfolding understood everything
reads_leaf further = record {
  terms = col 1 1 ∷ col 1 2 ∷ col 1 3 ∷ [];
  order = [];
  names = codes "key" ∷ codes "leaf" ∷ codes "message" ∷ [];
  is = refl;
  plain = (refl, refl);
  unlisted = refl;
  quiet = λ _ _. refl;
  cells = λ r. refl;
  keyed = λ r s. refl;
}

abbrev pub select_key : List ℕ
select_key = codes "SELECT key FROM signer"

abbrev pub one_cell : Row → Row
one_cell r = column r 1 ∷ []

pub reads_key : (further : Schema) → Reads (followed two further) select_key 0 one_cell []
unfolding understood everything
reads_key further = record {
  terms = col 1 1 ∷ [];
  order = [];
  names = codes "key" ∷ [];
  is = refl;
  plain = (refl, refl);
  unlisted = refl;
  quiet = λ _ _. refl;
  cells = λ r. refl;
  keyed = λ r s. refl;
}
