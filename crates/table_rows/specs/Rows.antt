-- The cells of a stored row of each table.
use Rattle.std.specs.Prelude.{[], ◌∷◌}
use Rattle.sqlite.specs.Order.{Row, column}

-- Column 0 of a stored row is the rowid, which a first column of type INTEGER PRIMARY KEY has as its value.
abbrev pub root_cells : Row → Row
root_cells r = column r 0 ∷ column r 2 ∷ []

abbrev pub root2_cells : Row → Row
root2_cells r = column r 0 ∷ column r 2 ∷ column r 3 ∷ []

abbrev pub current_cells : Row → Row
current_cells r = column r 1 ∷ column r 2 ∷ column r 3 ∷ []

abbrev pub shelf_cells : Row → Row
shelf_cells r = column r 1 ∷ column r 2 ∷ column r 3 ∷ []

abbrev pub blob_cells : Row → Row
blob_cells r = column r 1 ∷ column r 2 ∷ []

abbrev pub version_cells : Row → Row
version_cells r = column r 0 ∷ []
