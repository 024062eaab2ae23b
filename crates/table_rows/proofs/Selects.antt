-- The queries of the tables: the facts of each text, whatever stands behind the tables that it needs.
use Rattle.std.proofs.Common.{List, ℕ, [], ◌∷◌, codes, refl}
use Rattle.sqlite_tied.specs.Compute.{everything}
use Rattle.sqlite.specs.Listing.{understood}
use Rattle.sqlite.specs.Term.{col}
use Rattle.sql_tables.specs.Loading.{rises, with_rowid}
use Rattle.sql_tables.proofs.Queries.{Reads}
use Rattle.sqlite.specs.Schema.{Schema}
use Rattle.sql_tables.specs.Described.{followed}
use Rattle.table_rows.specs.Schema.{five}
use Rattle.table_rows.specs.Rows.{root_cells, current_cells, shelf_cells, blob_cells, version_cells}

abbrev pub select_first : List ℕ
select_first = codes "SELECT version, bytes FROM root ORDER BY version"

pub reads_first : (further : Schema) → Reads (followed five further) select_first 0 root_cells (rises ∷ [])
unfolding understood everything
reads_first further = record {
  terms = col 1 0 ∷ col 1 2 ∷ [];
  order = (col 1 0, rises) ∷ [];
  names = codes "version" ∷ codes "bytes" ∷ [];
  is = refl;
  plain = (refl, refl);
  unlisted = refl;
  quiet = λ _ _. refl;
  cells = λ r. refl;
  keyed = λ r s. refl;
}

abbrev pub select_current : List ℕ
select_current = codes "SELECT slot, version, bytes, rowid FROM current"

pub reads_current : (further : Schema) → Reads (followed five further) select_current 1 (with_rowid current_cells) []
unfolding understood everything
reads_current further = record {
  terms = col 1 1 ∷ col 1 2 ∷ col 1 3 ∷ col 1 0 ∷ [];
  order = [];
  names = codes "slot" ∷ codes "version" ∷ codes "bytes" ∷ codes "rowid" ∷ [];
  is = refl;
  plain = (refl, refl);
  unlisted = refl;
  quiet = λ _ _. refl;
  cells = λ r. refl;
  keyed = λ r s. refl;
}

abbrev pub select_shelf : List ℕ
select_shelf = codes "SELECT role, version, bytes, rowid FROM shelf ORDER BY role, version"

pub reads_shelf : (further : Schema) → Reads (followed five further) select_shelf 3 (with_rowid shelf_cells) (rises ∷ rises ∷ [])
unfolding understood everything
reads_shelf further = record {
  terms = col 1 1 ∷ col 1 2 ∷ col 1 3 ∷ col 1 0 ∷ [];
  order = (col 1 1, rises) ∷ (col 1 2, rises) ∷ [];
  names = codes "role" ∷ codes "version" ∷ codes "bytes" ∷ codes "rowid" ∷ [];
  is = refl;
  plain = (refl, refl);
  unlisted = refl;
  quiet = λ _ _. refl;
  cells = λ r. refl;
  keyed = λ r s. refl;
}

abbrev pub select_blob : List ℕ
select_blob = codes "SELECT digest, bytes, rowid FROM blob ORDER BY digest"

pub reads_blob : (further : Schema) → Reads (followed five further) select_blob 5 (with_rowid blob_cells) (rises ∷ [])
unfolding understood everything
reads_blob further = record {
  terms = col 1 1 ∷ col 1 2 ∷ col 1 0 ∷ [];
  order = (col 1 1, rises) ∷ [];
  names = codes "digest" ∷ codes "bytes" ∷ codes "rowid" ∷ [];
  is = refl;
  plain = (refl, refl);
  unlisted = refl;
  quiet = λ _ _. refl;
  cells = λ r. refl;
  keyed = λ r s. refl;
}

abbrev pub select_version : List ℕ
select_version = codes "SELECT version FROM schema"

pub reads_version : (further : Schema) → Reads (followed five further) select_version 7 version_cells []
unfolding understood everything
reads_version further = record {
  terms = col 1 0 ∷ [];
  order = [];
  names = codes "version" ∷ [];
  is = refl;
  plain = (refl, refl);
  unlisted = refl;
  quiet = λ _ _. refl;
  cells = λ r. refl;
  keyed = λ r s. refl;
}
