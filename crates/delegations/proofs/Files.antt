-- What holds of each document on a shelf holds of each that is found there.
use Rattle.std.proofs.Common.{◌≡◌, suc, ◌+◌, Bool, true, false, cond, [], ◌∷◌, length, Some, refl, ap, ◌∙◌, arith}
use Rattle.std.proofs.lemmas.List.{length-map}
use Rattle.std.specs.Prelude.{IfSome}
use Rattle.document_parts.specs.Documents.{Targets}
use Rattle.metadata.specs.File.{File}
use Rattle.delegations.specs.Rows.{Place, same_place, place_before, value_at, with_row, with_rows, Rows, AllFiles}
use Rattle.delegations.specs.Views.{row_views, rows_view}
use Rattle.delegations.specs.declared.rows.Rows.{Rows as CodeRows}

module _ (P : File Targets → Type 0) where
  all_row : (rows : Rows) (place : Place) (file : File Targets) → AllFiles P rows → P file → AllFiles P (with_row place_before rows place file)
  all_row [] place file h n = (n, tt)
  all_row (row ∷ rows) place file h n = split (all_row rows place file h.1 n) (place_before place row.0)
    where
      split : AllFiles P (with_row place_before rows place file) → (b : Bool)
          → AllFiles P (cond b ((place, file) ∷ (row ∷ rows)) (row ∷ with_row place_before rows place file))
      split rest true = (n, h)
      split rest false = (h.0, rest)

  pub all_rows : (rows more : Rows) → AllFiles P rows → AllFiles P more → AllFiles P (with_rows rows more)
  all_rows rows [] h k = h
  all_rows rows (row ∷ more) h k = all_rows (with_row place_before rows row.0 row.1) more (all_row rows row.0 row.1 h k.0) k.1

  pub all_at : (rows : Rows) (place : Place) → AllFiles P rows → IfSome (value_at same_place rows place) P
  all_at [] place h = tt
  all_at (row ∷ rows) place h = split (all_at rows place h.1) (same_place row.0 place)
    where
      split : IfSome (value_at same_place rows place) P → (b : Bool) → IfSome (cond b (Some row.1) (value_at same_place rows place)) P
      split rest true = h.0
      split rest false = rest

  pub all_found : (rows : Rows) (place : Place) (file : File Targets) → AllFiles P rows → Some file ≡ value_at same_place rows place → P file
  all_found rows place file h e = rw (← e) at (all_at rows place h)

-- how many rows there are
longer : (rows : Rows) (place : Place) (file : File Targets) → length (with_row place_before rows place file) ≡ suc (length rows)
longer [] place file = refl
longer (row ∷ rows) place file = split (longer rows place file) (place_before place row.0)
  where
    split : length (with_row place_before rows place file) ≡ suc (length rows) → (b : Bool)
        → length (cond b ((place, file) ∷ (row ∷ rows)) (row ∷ with_row place_before rows place file)) ≡ suc (suc (length rows))
    split rest true = refl
    split rest false = ap suc rest

pub all_length : (rows more : Rows) → length (with_rows rows more) ≡ length rows + length more
all_length rows [] = omega arith
all_length rows (row ∷ more) =
    let one = longer rows row.0 row.1 in
    let rest = all_length (with_row place_before rows row.0 row.1) more in
    omega (arith, one, rest)

-- the same by what the code holds
pub rows_length : (rows : CodeRows) → length (rows_view rows) ≡ length rows.held.now + length rows.added.now
rows_length rows =
    all_length (row_views rows.held.now) (row_views rows.added.now) ∙ rw (length-map, length-map) refl
