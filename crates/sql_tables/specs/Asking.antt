-- What is known of the text of a query of one table.
use Rattle.std.specs.Prelude.{◌≡◌, ℕ, pos, negsuc, List, [], ◌∷◌, map, false, None, Ok, Err}
use Rattle.sqlite_resolve.specs.Lowering.{Checked}
use Rattle.sqlite_resolve.specs.Compile.{returning, first}
use Rattle.sqlite_syntax.specs.declared.statement.Parsed.{Parsed}
use Rattle.sqlite_value.specs.declared.keys.Key.{Key}
use Rattle.sqlite_sql.specs.Term.{Term, eval_all, lit}
use Rattle.sqlite_sql.specs.Query.{Query, inner, end, key_cmp}
use Rattle.sqlite.specs.declared.types.Value.TheVariants.{Int}
use Rattle.sqlite.specs.Order.{Row}
use Rattle.sqlite.specs.Command.TheVariants.{Select}
use Rattle.sqlite.specs.Schema.{Schema}
use Rattle.sqlite.specs.Given.{IsPlain}
use Rattle.sqlite.specs.Listing.{understood, reads_listing}
use Rattle.sqlite.proofs.Callers.{command_of}

-- a query of one table with these terms of WHERE, of what it shows of each row, and of ORDER BY
abbrev pub plain_query : ℕ → List Term → List Term → List (Term × Key) → Query
plain_query tree filter project order = record {
  from = inner tree end;
  filter = filter;
  group = None;
  project = project;
  distinct = false;
  collations = [];
  order = order;
  limit = lit (Int (negsuc 0));
  offset = lit (Int (pos 0));
}

-- what is shown of a row
abbrev pub cells_of : List Term → Row → Row → Row
cells_of project params row = eval_all project (params ∷ row ∷ [])

-- Under no schema has the text a RETURNING.
abbrev pub IsQuiet : Checked Parsed → Type 0
IsQuiet (Ok p) = (schema : Schema) (base : ℕ) → returning schema base p.statement ≡ Ok None
IsQuiet (Err e) = Unit {0}

-- what is known of the text of a query of one table: what it asks for, and that it commits nothing
pub record Reads (schema : Schema) (sql : List ℕ) (tree : ℕ) (shown : Row → Row) (keys : List Key) : Type 0 where
  pub terms : List Term
  pub order : List (Term × Key)
  pub names : List (List ℕ)
  pub is : command_of (understood schema sql) ≡ Select (record { lets = []; body = plain_query tree [] terms order }) names
  pub plain : IsPlain (understood schema sql)
  pub unlisted : reads_listing schema sql ≡ false
  pub quiet : IsQuiet (first sql)
  pub cells : (r : Row) → cells_of terms [] r ≡ shown r
  pub keyed : (r s : Row) → key_cmp 0 (map (λ k. k.1) order) (cells_of (map (λ k. k.0) order) [] r) (cells_of (map (λ k. k.0) order) [] s) ≡ key_cmp 0 keys (shown r) (shown s)
