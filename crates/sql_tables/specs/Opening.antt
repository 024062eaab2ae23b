-- A connection between two transactions, and what the next one finds.
use Rattle.std.specs.Prelude.{◌≡◌, IsTrue}
use Rattle.sqlite_trees.specs.Tree.{Trees}
use Rattle.sqlite_wal.specs.Recovery.{Image}
use Rattle.sqlite.specs.Files.{HoldsDatabase}
use Rattle.sqlite.specs.State.{State}

-- where the connection is open, it sees what was committed
abbrev pub IsSettled : State → Type 0
IsSettled s = IsTrue s.is_open → s.now ≡ s.committed

-- An open of files of this image finds these trees: the field `holds` of `FindsIn` and of `Finds`, what an open answers.
abbrev pub IsFound : Image → Trees → Type 0
IsFound image found = (db : Trees) → HoldsDatabase image db → found ≡ db
