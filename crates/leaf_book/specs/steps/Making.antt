-- The making of the tables.
use Rattle.std.specs.Prelude.{[]}
use Rattle.sqlite_trees.specs.Tree.{Trees}

-- no rows
abbrev pub nowhere : Trees
nowhere tree = []
