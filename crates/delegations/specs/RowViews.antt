-- What the rows of a shelf stand for.
use Rattle.std.specs.Prelude.{map, List}
use Rattle.metadata.specs.FileViews.{targets_file}
use Rattle.delegations.specs.Rows as shelves
use Rattle.delegations.specs.declared.rows.Row.{Row}

abbrev pub row_views : List Row → shelves.Rows
row_views rows = map (λ r. ((r.role, r.version), targets_file r.file)) rows
