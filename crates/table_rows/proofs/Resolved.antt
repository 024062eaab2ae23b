-- What a text on `root2` means, wherever in the schema the table stands, and the text that makes it.
use Rattle.std.proofs.Common.{◌≡◌, ◌+◌, List, ℕ, [], ◌∷◌, ◌==◌, ◌&&◌, codes, length, not, pos, refl, true, None, Some, Ok, Err, slice_get, ap, subst, sym, false}
use Rattle.std.specs.Option.{option_or}
use Rattle.sqlite_tied.specs.Compute.{everything}
use Rattle.sqlite.specs.Schema.{Schema}
use Rattle.sqlite.specs.Table.{Table}
use Rattle.sqlite.specs.Term.{Term, lit, col}
use Rattle.sqlite.specs.Source.TheVariants.{Values}
use Rattle.sqlite.specs.Command.{Command}
use Rattle.sqlite.specs.Command.TheVariants.{CreateTable as MakeTable, Insert}
use Rattle.sqlite.specs.Listing.{understood}
use Rattle.sqlite.specs.State.{text_of}
use Rattle.sqlite.proofs.Callers.{command_of, IsPlain}
use Rattle.sqlite.specs.declared.types.Value.TheVariants.{Int, Null}
use Rattle.sqlite_ast.specs.declared.CreateTable.{CreateTable}
use Rattle.sqlite_ast.specs.declared.Statement.TheVariants as written
use Rattle.sqlite_resolve.specs.Compile.{compiled, create_table, creates, command, first, formats_of, is_attached, is_reserved, meaning, on_table, planned, returning, small, table_defined_by, timed, with_command}
use Rattle.sqlite_resolve.specs.Define as define
use Rattle.sqlite_resolve.specs.Lowering.{Checked}
use Rattle.sqlite_schema.specs.Names.{index_named, table_named, view_named}
use Rattle.sqlite_syntax.specs.declared.statement.Parsed.{Parsed}
use Rattle.sql_tables.specs.Described.{table_of}
use Rattle.table_rows.specs.Schema.{HasSecond, root2_table}

-- ---- a text by its parts

planned_is : (s : Schema) (p : Parsed) (formats : List (List ℕ)) (c : Command) → timed s p.formats p.statement ≡ formats
    → returning s (small p.names + small formats) p.statement ≡ Ok None → command s p.formats (small p.names + small formats) p.statement ≡ Ok c → planned s p ≡ Ok (formats, (c, None))
unfolding planned meaning
planned_is s p formats c times quiet is = rw (times, quiet, is) refl

pub compiled_is : (s : Schema) (sql : List ℕ) (p : Parsed) (c : Command) → first sql ≡ Ok p → timed s p.formats p.statement ≡ []
    → returning s (small p.names + 0) p.statement ≡ Ok None → command s p.formats (small p.names + 0) p.statement ≡ Ok c → compiled s sql ≡ Ok (with_command p ([], (c, None)))
unfolding compiled
compiled_is s sql p c parsed times quiet is = rw (parsed, planned_is s p [] c times quiet is) refl

pub understood_is : (s : Schema) (sql : List ℕ) (p : Parsed) (c : Command) → compiled s sql ≡ Ok (with_command p ([], (c, None))) → understood s sql ≡ Ok (with_command p ([], (c, None)))
unfolding understood
understood_is s sql p c is = rw is refl

-- what a text means under this schema
abbrev pub IsMeant : Schema → List ℕ → Command → Type 0
IsMeant s sql c = (command_of (understood s sql) ≡ c) × IsPlain (understood s sql)

meant : (s : Schema) (sql : List ℕ) (p : Parsed) (c : Command) → compiled s sql ≡ Ok (with_command p ([], (c, None))) → IsMeant s sql c
meant s sql p c is = let all = understood_is s sql p c is in (ap command_of all, subst IsPlain (sym all) (refl, refl))

-- what a text says, if it is one
abbrev parsed_of : Checked Parsed → Parsed
parsed_of (Ok p) = p
parsed_of (Err e) = record { statement = written.Empty; names = []; formats = []; start = 0; end = 0; tail = 0 }

-- ---- INSERT

on_table_is : (s : Schema) (name : List ℕ) (place : ℕ) (table : Table) (f : ℕ → Table → Checked Command) → table_named s name ≡ Some place → slice_get s.tables place ≡ Some table
    → on_table s name f ≡ f place table
on_table_is s name place table f named found = rw (named, found) refl

formats_is : (s : Schema) (name : List ℕ) (place : ℕ) (table : Table) → table_named s name ≡ Some place → slice_get s.tables place ≡ Some table → formats_of s name ≡ table.stamps.formats
formats_is s name place table named found = rw (named, found) refl

abbrev pub root_values : List Term
root_values = col 0 0 ∷ lit Null ∷ col 0 1 ∷ col 0 2 ∷ []

abbrev pub insert_root : List ℕ
insert_root = codes "INSERT INTO root2 (version, profile, bytes) VALUES (?1, ?2, ?3)"

pub insert_root_is : (s : Schema) (place tree : ℕ) → HasSecond s place tree → IsMeant s insert_root (Insert place (Values root_values 4))
unfolding everything
insert_root_is s place tree has = meant s insert_root (parsed_of (first insert_root)) (Insert place (Values root_values 4)) (compiled_is s insert_root (parsed_of (first insert_root)) (Insert place (Values root_values 4)) refl
    (formats_is s (codes "root2") place (table_of root2_table tree) has.named has.found) refl (on_table_is s (codes "root2") place (table_of root2_table tree) _ has.named has.found))

abbrev pub first_values : List Term
first_values = col 0 0 ∷ lit Null ∷ lit (Int (pos 1)) ∷ col 0 1 ∷ []

abbrev pub insert_first : List ℕ
insert_first = codes "INSERT INTO root2 (version, profile, bytes) VALUES (?1, 1, ?2)"

pub insert_first_is : (s : Schema) (place tree : ℕ) → HasSecond s place tree → IsMeant s insert_first (Insert place (Values first_values 4))
unfolding everything
insert_first_is s place tree has = meant s insert_first (parsed_of (first insert_first)) (Insert place (Values first_values 4)) (compiled_is s insert_first (parsed_of (first insert_first)) (Insert place (Values first_values 4)) refl
    (formats_is s (codes "root2") place (table_of root2_table tree) has.named has.found) refl (on_table_is s (codes "root2") place (table_of root2_table tree) _ has.named has.found))

-- ---- CREATE TABLE

attached_is : (s : Schema) (name : List ℕ) → view_named s name ≡ None → is_attached s name ≡ false
unfolding is_attached
attached_is s name none = rw none refl

creates_is : (s : Schema) (name : List ℕ) → is_reserved name ≡ false → table_named s name ≡ None → view_named s name ≡ None → index_named s name ≡ None
    → creates false name (option_or (table_named s name) (view_named s name)) (index_named s name) ≡ Ok true
unfolding creates
creates_is s name free no_table no_view no_index = rw (free, no_table, no_view, no_index) refl

create_table_is : (s : Schema) (def : CreateTable) (t : Table) → def.if_missing ≡ false → is_reserved def.name ≡ false
    → table_named s def.name ≡ None → view_named s def.name ≡ None → index_named s def.name ≡ None
    → define.table [] def ≡ Ok t → (length t.computed == length t.stamps.places && not def.resolves) ≡ true → create_table s [] def ≡ Ok MakeTable
unfolding create_table
create_table_is s def t new free no_table no_view no_index made fits =
    rw (made, fits, attached_is s def.name no_view, new, creates_is s def.name free no_table no_view no_index) refl

-- a text that makes this table
record Creates (sql name : List ℕ) (table : Table) : Type 0 where
  pub parsed : Parsed
  pub def : CreateTable
  pub first_is : first sql ≡ Ok parsed
  pub statement_is : parsed.statement ≡ written.CreateTable def
  pub no_formats : parsed.formats ≡ []
  pub name_is : def.name ≡ name
  pub new : def.if_missing ≡ false
  pub free : is_reserved def.name ≡ false
  pub made : define.table [] def ≡ Ok table
  pub defined : table_defined_by (text_of sql (with_command parsed ([], (MakeTable, None)))) ≡ Ok table
  pub fits : (length table.computed == length table.stamps.places && not def.resolves) ≡ true

abbrev pub make_root2 : List ℕ
make_root2 = codes "CREATE TABLE root2 (version INTEGER NOT NULL PRIMARY KEY, profile INTEGER NOT NULL, bytes BLOB NOT NULL)"

creates_root2 : Creates make_root2 (codes "root2") (table_of root2_table 0)
unfolding everything
creates_root2 = record { parsed = _; def = _; first_is = refl; statement_is = refl; no_formats = refl; name_is = refl; new = refl; free = refl; made = refl; defined = refl; fits = refl }

pub create_is : (s : Schema) → table_named s (codes "root2") ≡ None → view_named s (codes "root2") ≡ None → index_named s (codes "root2") ≡ None
    → (p : Parsed) × (table_defined_by (text_of make_root2 (with_command p ([], (MakeTable, None)))) ≡ Ok (table_of root2_table 0)) × (understood s make_root2 ≡ Ok (with_command p ([], (MakeTable, None))))
unfolding command timed returning
create_is s no_table no_view no_index =
    let it = creates_root2 in (
      it.parsed,
      it.defined,
      understood_is s make_root2 it.parsed MakeTable (compiled_is s make_root2 it.parsed MakeTable it.first_is (rw it.statement_is refl) (rw it.statement_is refl)
          (rw (it.statement_is, it.no_formats) (create_table_is s it.def (table_of root2_table 0) it.new it.free (rw it.name_is no_table) (rw it.name_is no_view) (rw it.name_is no_index) it.made it.fits))),
    )
