-- What a query of one table means, wherever in the schema the table is.
use Rattle.std.proofs.Common.{◌≡◌, List, ℕ, [], ◌∷◌, ◌+◌, ◌-◌, ◌++◌, Bool, codes, refl, false, true, Some, None, Ok, slice_get, ap, sym, find, ◌==◌, ◌<◌, ◌≤◌, subst, zero, suc, arith, inl, inr}
use Rattle.sqlite_tied.specs.Compute.{everything}
use Rattle.sqlite.specs.Schema.{Schema}
use Rattle.sqlite.specs.Table.{Table}
use Rattle.sqlite_schema.specs.Names.{table_named, column_named, place_of}
use Rattle.sqlite_schema.specs.declared.schema.Column.{Column}
use Rattle.sqlite.specs.Term.{Term, lit, col}
use Rattle.sqlite_resolve.specs.Scope as scope
use Rattle.sqlite_resolve.specs.Scope.{Context, column_in, column_at}
use Rattle.sqlite_resolve.specs.declared.scope.Bound.{Bound}
use Rattle.sqlite_resolve.specs.declared.scope.Output.{Output}
use Rattle.sqlite_resolve.specs.declared.scope.Found.TheVariants as found
use Rattle.sqlite_resolve.specs.declared.state.State.{State}
use Rattle.sqlite_resolve.specs.declared.state.Carried.{Carried}
use Rattle.std.specs.Prelude.{nat_lt, nat_le, ◌^◌, map}
use Rattle.sqlite_resolve.specs.Select as select
use Rattle.sqlite_syntax.specs.declared.statement.Parsed.{Parsed}
use Rattle.sqlite_ast.specs.declared.Statement.TheVariants as written
use Rattle.sqlite_resolve.specs.Compile.{compiled, first, with_command}
use Rattle.sqlite.specs.Listing.{misses_table}
use Rattle.sqlite.proofs.Callers.{command_of, IsPlain}
use Rattle.sql_tables.specs.Loading.{rises}
use Rattle.sql_tables.proofs.Queries.{Reads}
use Rattle.table_rows.specs.Rows.{root2_cells}
use Rattle.table_rows.proofs.Resolved.{compiled_is, understood_is}
use Rattle.std.specs.List.{position_from}
use Rattle.std.proofs.lemmas.Bool.{cases_Bool}
use Rattle.sqlite.specs.Kind.TheVariants.{Integer, Any}
use Rattle.sql_tables.specs.Described.{table_of}
use Rattle.sql_tables.specs.Schema.{required}
use Rattle.table_rows.specs.Schema.{HasSecond, root2_table}
use Rattle.std.specs.Prelude.{pos, negsuc}
use Rattle.sqlite.specs.declared.types.Value.TheVariants.{Int}
use Rattle.sqlite_draft.specs.Query.{query_of}
use Rattle.sqlite_typing.specs.Types.{accepts_after, row_classes}
use Rattle.sqlite_resolve.specs.Program as program
use Rattle.sqlite_resolve.specs.Compile as compile
use Rattle.sqlite_ast.specs.declared.Core.{Core, out-Core}
use Rattle.sqlite_ast.specs.declared.Select.{Select, out-Select}
use Rattle.sqlite_draft.specs.declared.query.Draft.{Draft}
use Rattle.sqlite_sql.specs.Query.{inner, end}
use Rattle.sql_tables.proofs.AnswerLemmas.{plain_query}
use Rattle.sqlite.specs.Command.TheVariants as command
use Rattle.sqlite_resolve.specs.Lowering as lowering
use Rattle.sqlite_resolve.specs.Expr as expr
use Rattle.sqlite_resolve.specs.Expr.{lower}
use Rattle.sqlite_resolve.specs.Body as body
use Rattle.sqlite_resolve.specs.Order as order
use Rattle.sqlite_resolve.specs.declared.body.Body.{Body}
use Rattle.sqlite_draft.specs.declared.join.Step.TheVariants.{Inner}
use Rattle.sqlite_ast.specs.declared.Expr.{Expr, out-Expr}
use Rattle.sqlite_ast.specs.declared.Expr.TheOpen.{Expr-F, Shown-F}
use Rattle.sqlite_ast.specs.declared.Shown.{Shown, out-Shown}
use Rattle.sqlite_ast.specs.declared.Origin.TheVariants as origin
use Rattle.sqlite_ast.specs.declared.Source.{Source, out-Source}
use Rattle.sqlite_ast.specs.declared.Sort.{Sort, out-Sort}
use Rattle.sqlite_value.specs.declared.keys.Key.{Key}

-- the table in slot 1, under its name
abbrev bound_at : List ℕ → ℕ → Bound
bound_at name place = record { name = name; table = place; slot = 1; shared = [] }

abbrev context_at : Schema → List ℕ → ℕ → List Output → Bool → Bool → Context
context_at s name place shown may_aggregate may_alias = record { schema = s; levels = record { tables = bound_at name place ∷ []; shown = shown } ∷ []; may_aggregate = may_aggregate; may_alias = may_alias }

-- an expression of the result that is a column
record Shows (table : Table) (x : Shown) (k : ℕ) (c : Column) : Type 0 where
  pub column : List ℕ
  pub at : column_named table column ≡ Some k
  pub is : slice_get table.columns k ≡ Some c
  pub e : Expr
  pub text : List ℕ
  pub out : out-Shown x ≡ Shown-F.One e None text
  pub named : out-Expr e ≡ Expr-F.Column None column

module _ (s : Schema) (name : List ℕ) (place : ℕ) (table : Table) (there : slice_get s.tables place ≡ Some table) where
  column_is : (column : List ℕ) (k : ℕ) → column_named table column ≡ Some k → column_in s column (bound_at name place) ≡ Some (found.Column 1 place k)
  unfolding column_in
  column_is column k at = rw (there, at) refl

  term_is : (k : ℕ) (c : Column) → slice_get table.columns k ≡ Some c → column_at s 1 place k ≡ Ok (col 1 (place_of table k), scope.declared table k c)
  unfolding column_at
  term_is k c at = rw (there, at) refl

  find_is : (column : List ℕ) (k : ℕ) → column_named table column ≡ Some k → (shown : List Output) (m a : Bool) → scope.find (context_at s name place shown m a) None column ≡ Ok (found.Column 1 place k)
  unfolding scope.find scope.in_level scope.only scope.hit scope.is_among
  find_is column k at shown m a = rw (column_is column k at) refl

  named_is : (column : List ℕ) (k : ℕ) (c : Column) → column_named table column ≡ Some k → slice_get table.columns k ≡ Some c → (shown : List Output) (m a : Bool) (st : State)
      → scope.column (context_at s name place shown m a) None column st ≡ Ok (col 1 (place_of table k), record st { last = scope.declared table k c })
  unfolding scope.column scope.term_of
  named_is column k c at is shown m a st = rw (find_is column k at shown m a, term_is k c is) refl

  -- the state in which the next expression is read
  abbrev state_at : ℕ → ℕ → Carried → State
  state_at next budget last = record { next = next; steps = []; aggregates = []; budget = budget; written = None; last = last }

  lower_is : (column : List ℕ) (k : ℕ) (c : Column) → column_named table column ≡ Some k → slice_get table.columns k ≡ Some c → (shown : List Output) (m a : Bool) (e : Expr)
      → out-Expr e ≡ Expr-F.Column None column → (next budget : ℕ) (last : Carried) → nat_lt 1 budget ≡ true
      → lower (context_at s name place shown m a) e (state_at next budget last) ≡ Ok (col 1 (place_of table k), state_at next (budget - 1) (scope.declared table k c))
  unfolding expr.lower_to expr.node expr.opened expr.passes lowering.begin lowering.finish lowering.spend
  lower_is column k c at is shown m a e named next budget last enough = rw (named, enough, named_is column k c at is shown m a (state_at next (budget - 1) lowering.nothing)) refl

  heading_is : (column : List ℕ) (k : ℕ) (c : Column) → column_named table column ≡ Some k → slice_get table.columns k ≡ Some c → (shown : List Output) (m a : Bool) (e : Expr)
      → out-Expr e ≡ Expr-F.Column None column → (text : List ℕ) → body.heading (context_at s name place shown m a) e text ≡ c.name
  unfolding body.heading body.declared
  heading_is column k c at is shown m a e named text = rw (named, find_is column k at shown m a, there, is) refl

  -- what is shown of a column
  abbrev output_at : ℕ → Column → Output
  output_at k c = record { name = c.name; is_alias = false; is_column = true; term = col 1 (place_of table k); carried = scope.declared table k c }

  shown_is : (column : List ℕ) (k : ℕ) (c : Column) → column_named table column ≡ Some k → slice_get table.columns k ≡ Some c → (x : Shown) (e : Expr) (text : List ℕ)
      → out-Shown x ≡ Shown-F.One e None text → out-Expr e ≡ Expr-F.Column None column → (done : List Output) (next budget : ℕ) (last : Carried) → nat_lt 1 budget ≡ true
      → body.shown lower (context_at s name place [] true true) (bound_at name place ∷ []) done x (state_at next budget last) ≡ Ok (done ++ output_at k c ∷ [], state_at next (budget - 1) (scope.declared table k c))
  unfolding body.shown body.is_column
  shown_is column k c at is x e text out named done next budget last enough =
      rw (out, lower_is column k c at is [] true true e named next budget last enough, heading_is column k c at is [] true true e named text, named) refl

  -- FROM has the table alone
  abbrev from_table : Source → Type 0
  from_table src = out-Source src ≡ record { is_left = false; origin = origin.Table name; alias = None; on = None; using = [] }

  bounds_is : (src : Source) → from_table src → table_named s name ≡ Some place → (budget : ℕ) (last : Carried) → body.bounds s (src ∷ []) (state_at 1 budget last) ≡ Ok (bound_at name place ∷ [], state_at 2 budget last)
  unfolding body.bounds body.bound body.table_in lowering.take_slot
  bounds_is src from named budget last = rw (from, named) refl

  joins_is : (src : Source) → from_table src → (shown : List Output) (budget : ℕ) (last : Carried)
      → body.joins lower (context_at s name place shown false true) (bound_at name place ∷ []) (src ∷ []) (state_at 2 budget last) ≡ Ok (record { steps = Inner table.tree ∷ []; filter = [] }, state_at 2 budget last)
  unfolding body.joins body.join body.shared body.inner_join body.tests
  joins_is src from shown budget last = rw (from, there) refl

  one_shown : (x : Shown) (k : ℕ) (c : Column) → Shows table x k c → (done : List Output) (next budget : ℕ) (last : Carried) → nat_lt 1 budget ≡ true
      → body.shown lower (context_at s name place [] true true) (bound_at name place ∷ []) done x (state_at next budget last) ≡ Ok (done ++ output_at k c ∷ [], state_at next (budget - 1) (scope.declared table k c))
  one_shown x k c h = shown_is h.column k c h.at h.is x h.e h.text h.out h.named

  peeled_is : (column : List ℕ) (e : Expr) → out-Expr e ≡ Expr-F.Column None column → order.peeled e ≡ e
  unfolding order.peeled
  peeled_is column e named = rw named refl

  no_alias : (column : List ℕ) (e : Expr) → out-Expr e ≡ Expr-F.Column None column → (shown : List Output) → scope.alias_of column shown ≡ None → order.alias_in shown e ≡ None
  unfolding order.alias_in
  no_alias column e named shown none = rw (named, none) refl

  key_is : (column : List ℕ) (k : ℕ) (c : Column) → column_named table column ≡ Some k → slice_get table.columns k ≡ Some c → (shown : List Output) (e : Expr) → out-Expr e ≡ Expr-F.Column None column
      → (budget : ℕ) (last : Carried) → nat_lt 1 budget ≡ true
      → order.key lower (context_at s name place shown false true) shown e (state_at 2 budget last) ≡ Ok (col 1 (place_of table k), state_at 2 (budget - 1) (scope.declared table k c))
  unfolding order.key order.is_numeral
  key_is column k c at is shown e named budget last enough = rw (named, lower_is column k c at is shown false true e named 2 budget last enough) refl

  written_is : (column : List ℕ) (e : Expr) → out-Expr e ≡ Expr-F.Column None column → order.written_on e ≡ None
  unfolding order.written_on
  written_is column e named = rw named refl

  by_is : (column : List ℕ) (e : Expr) → out-Expr e ≡ Expr-F.Column None column → (budget : ℕ) (last : Carried) → order.collation_of e (state_at 2 budget last) ≡ Ok (lowering.alone last, state_at 2 budget last)
  unfolding order.collation_of
  by_is column e named budget last = rw (written_is column e named) refl

  sort_is : (column : List ℕ) (k : ℕ) (c : Column) → column_named table column ≡ Some k → slice_get table.columns k ≡ Some c → (shown : List Output) → scope.alias_of column shown ≡ None
      → (srt : Sort) (e : Expr) → (out-Sort srt).key ≡ e → (out-Sort srt).descending ≡ false → (out-Sort srt).nulls_first ≡ None → out-Expr e ≡ Expr-F.Column None column
      → (done : List (Term × Key)) (budget : ℕ) (last : Carried) → nat_lt 1 budget ≡ true
      → order.sort lower (context_at s name place shown false true) shown done srt (state_at 2 budget last)
      ≡ Ok (done ++ (col 1 (place_of table k), record { collation = lowering.alone (scope.declared table k c); descending = false }) ∷ [], state_at 2 (budget - 1) (scope.declared table k c))
  unfolding order.sort order.placed
  sort_is column k c at is shown none srt e out up plain named done budget last enough =
      rw (out, up, plain, peeled_is column e named, no_alias column e named shown none, key_is column k c at is shown e named budget last enough, by_is column e named (budget - 1) (scope.declared table k c)) refl

  module _ (x0 x1 x2 : Shown) (k0 k1 k2 : ℕ) (c0 c1 c2 : Column) (shows0 : Shows table x0 k0 c0) (shows1 : Shows table x1 k1 c1) (shows2 : Shows table x2 k2 c2) (src : Source) (from : from_table src) (named : table_named s name ≡ Some place)
      (core : Core) (core_is : out-Core core ≡ record { distinct = false; shown = x0 ∷ x1 ∷ x2 ∷ []; from = src ∷ []; filter = None; group = []; having = None }) where
    abbrev outs : List Output
    outs = output_at k0 c0 ∷ output_at k1 c1 ∷ output_at k2 c2 ∷ []

    abbrev whole : Body
    whole = record { level = record { tables = bound_at name place ∷ []; shown = outs }; steps = Inner table.tree ∷ []; filter = [] }

    body_is : body.body lower (select.outermost s) core (lowering.fresh 1 lowering.max_budget) ≡ Ok (whole, state_at 2 99997 (scope.declared table k2 c2))
    unfolding body.body body.result body.outputs body.matching body.tests
    body_is = rw (
      core_is,
      bounds_is src from named 100000 lowering.nothing,
      one_shown x0 k0 c0 shows0 [] 2 100000 lowering.nothing refl,
      one_shown x1 k1 c1 shows1 (output_at k0 c0 ∷ []) 2 99999 (scope.declared table k0 c0) refl,
      one_shown x2 k2 c2 shows2 (output_at k0 c0 ∷ output_at k1 c1 ∷ []) 2 99998 (scope.declared table k1 c1) refl,
      joins_is src from outs 99997 (scope.declared table k2 c2),
    ) refl

    module _ (column : List ℕ) (k : ℕ) (c : Column) (at : column_named table column ≡ Some k) (is : slice_get table.columns k ≡ Some c) (none : scope.alias_of column outs ≡ None) (srt : Sort) (e : Expr)
        (sort : (out-Sort srt).key ≡ e) (up : (out-Sort srt).descending ≡ false) (plain : (out-Sort srt).nulls_first ≡ None) (by : out-Expr e ≡ Expr-F.Column None column) where
      abbrev keys : List (Term × Key)
      keys = (col 1 (place_of table k), record { collation = lowering.alone (scope.declared table k c); descending = false }) ∷ []

      parts_is : select.parts s core (srt ∷ []) (lowering.fresh 1 lowering.max_budget)
          ≡ Ok (record { body = whole; is_grouped = false; keys = []; collations = []; having = []; order = keys }, state_at 2 99996 (scope.declared table k c))
      unfolding select.parts order.keys select.having order.sorts body.tests
      parts_is = rw (core_is, body_is, sort_is column k c at is outs none srt e sort up plain by [] 99997 (scope.declared table k2 c2) refl) refl

      abbrev the_draft : Term × Term → Draft
      the_draft page = record { from = inner table.tree end; filter = []; group = None; project = map (λ (o : Output). o.term) outs; distinct = false; collations = []; order = keys; limit = page.0; offset = page.1 }

      named_query : (page : Term × Term) → select.named s core (srt ∷ []) page
          ≡ Ok (the_draft page, map (λ (o : Output). o.name) outs, map (λ (o : Output). o.carried.collation) outs)
      unfolding select.named select.assembled select.ungrouped
      named_query page = rw (core_is, parts_is) refl

      module _ (sel : Select) (no_with : (out-Select sel).with ≡ []) (core_of : (out-Select sel).first ≡ core) (alone : (out-Select sel).others ≡ []) (sorted : (out-Select sel).order ≡ srt ∷ [])
          (no_limit : (out-Select sel).limit ≡ None) (no_offset : (out-Select sel).offset ≡ None) where
        abbrev the_page : Term × Term
        the_page = (lit (Int (negsuc 0)), lit (Int (pos 0)))

        paging_is : select.paging s sel ≡ Ok the_page
        unfolding select.paging select.constant_or
        paging_is = rw (no_limit, no_offset) refl

        alone_is : (below : Schema → Select → program.Building program.Shown) → program.alone below s core (srt ∷ []) the_page []
            ≡ Ok ((the_draft the_page, map (λ (o : Output). o.name) outs, map (λ (o : Output). o.carried.collation) outs), [])
        unfolding program.alone program.single program.sources program.source program.viewing
        alone_is below = rw (core_is, from, named_query the_page) refl

        query_is : program.query s sel ≡ Ok ((the_draft the_page, map (λ (o : Output). o.name) outs, map (λ (o : Output). o.carried.collation) outs), [])
        unfolding program.query program.query_to program.level program.with program.whole
        query_is = rw (no_with, paging_is, alone, core_of, sorted, alone_is (program.query_to 15)) refl

        read_is : find (λ (t : Table). t.tree == table.tree) s.tables ≡ Some table → nat_le (2 ^ 31) table.tree ≡ false
            → accepts_after [] (query_of (the_draft the_page)) (Some (row_classes table ∷ [])) ≡ true
            → compile.read s sel ≡ Ok (command.Select (record { lets = []; body = query_of (the_draft the_page) }) (map (λ (o : Output). o.name) outs))
        unfolding compile.read program.program
        read_is own low accepted = rw (query_is, own, low, accepted) refl

-- ---- a text

abbrev pub select_root2 : List ℕ
select_root2 = codes "SELECT version, profile, bytes FROM root2 ORDER BY version"

-- a text that asks for three columns of a table, by the first of them
record Selects (sql name : List ℕ) (table : Table) (k0 k1 k2 k : ℕ) (c0 c1 c2 c : Column) : Type 0 where
  pub parsed : Parsed
  pub sel : Select
  pub core : Core
  pub src : Source
  pub x0 : Shown
  pub x1 : Shown
  pub x2 : Shown
  pub srt : Sort
  pub e : Expr
  pub column : List ℕ
  pub first_is : first sql ≡ Ok parsed
  pub statement_is : parsed.statement ≡ written.Select sel
  pub no_formats : parsed.formats ≡ []
  pub no_with : (out-Select sel).with ≡ []
  pub core_of : (out-Select sel).first ≡ core
  pub alone : (out-Select sel).others ≡ []
  pub sorted : (out-Select sel).order ≡ srt ∷ []
  pub no_limit : (out-Select sel).limit ≡ None
  pub no_offset : (out-Select sel).offset ≡ None
  pub core_is : out-Core core ≡ record { distinct = false; shown = x0 ∷ x1 ∷ x2 ∷ []; from = src ∷ []; filter = None; group = []; having = None }
  pub from : out-Source src ≡ record { is_left = false; origin = origin.Table name; alias = None; on = None; using = [] }
  pub shows0 : Shows table x0 k0 c0
  pub shows1 : Shows table x1 k1 c1
  pub shows2 : Shows table x2 k2 c2
  pub sort : (out-Sort srt).key ≡ e
  pub up : (out-Sort srt).descending ≡ false
  pub plain : (out-Sort srt).nulls_first ≡ None
  pub by : out-Expr e ≡ Expr-F.Column None column
  pub at : column_named table column ≡ Some k
  pub is : slice_get table.columns k ≡ Some c

selects_root2 : (tree : ℕ) → Selects select_root2 (codes "root2") (table_of root2_table tree) 0 1 2 0 (required (codes "version") Integer) (required (codes "profile") Integer) (required (codes "bytes") Any) (required (codes "version") Integer)
unfolding everything
selects_root2 tree = record {
  parsed = _;
  sel = _;
  core = _;
  src = _;
  x0 = _;
  x1 = _;
  x2 = _;
  srt = _;
  e = _;
  column = codes "version";
  first_is = refl;
  statement_is = refl;
  no_formats = refl;
  no_with = refl;
  core_of = refl;
  alone = refl;
  sorted = refl;
  no_limit = refl;
  no_offset = refl;
  core_is = refl;
  from = refl;
  shows0 = record { column = codes "version"; at = refl; is = refl; e = _; text = _; out = refl; named = refl };
  shows1 = record { column = codes "profile"; at = refl; is = refl; e = _; text = _; out = refl; named = refl };
  shows2 = record { column = codes "bytes"; at = refl; is = refl; e = _; text = _; out = refl; named = refl };
  sort = refl;
  up = refl;
  plain = refl;
  by = refl;
  at = refl;
  is = refl;
}

abbrev version_column : Column
version_column = required (codes "version") Integer

abbrev profile_column : Column
profile_column = required (codes "profile") Integer

abbrev bytes_column : Column
bytes_column = required (codes "bytes") Any

abbrev pub root2_names : List (List ℕ)
root2_names = codes "version" ∷ codes "profile" ∷ codes "bytes" ∷ []

abbrev pub root2_terms : List Term
root2_terms = col 1 0 ∷ col 1 2 ∷ col 1 3 ∷ []

low_tree : (tree : ℕ) → tree < 2 ^ 31 → nat_le (2 ^ 31) tree ≡ false
low_tree tree low = grind (arith, low)

least : {X : Type 0} (p : X → Bool) (at n : ℕ) (xs : List X) → position_from p at xs ≡ Some n → at ≤ n
least p at n [] e = absurd (let f = e in cc)
least p at n (x ∷ xs) e = elim (cases_Bool (p x)) [
  | inl hit ↦ let here : at ≡ n = let f = rw hit at e in cc in omega (arith, here)
  | inr miss ↦ omega (arith, least p (at + 1) n xs (rw miss at e))
]

-- the first of which a test holds is found at its place
pub found_first : {X : Type 0} (p : X → Bool) (at n place : ℕ) (xs : List X) (x : X) → position_from p at xs ≡ Some n → n ≡ at + place → slice_get xs place ≡ Some x → find p xs ≡ Some x
found_first p at n place [] x e is there = absurd (let f = e in cc)
found_first p at n zero (y ∷ ys) x e is there = elim (cases_Bool (p y)) [
  | inl hit ↦ rw hit there
  | inr miss ↦ absurd (omega (arith, is, least p (at + 1) n ys (rw miss at e)))
]
found_first p at n (suc place) (y ∷ ys) x e is there = elim (cases_Bool (p y)) [
  | inl hit ↦ let here : at ≡ n = let f = rw hit at e in cc in absurd (omega (arith, here, is))
  | inr miss ↦ rw miss (found_first p (at + 1) n place ys x (rw miss at e) (omega (arith, is)) there)
]

select_is : (s : Schema) (place tree : ℕ) → HasSecond s place tree → compiled s select_root2 ≡ Ok (with_command (selects_root2 tree).parsed ([], (command.Select (record { lets = []; body = plain_query tree [] root2_terms ((col 1 0, rises) ∷ []) }) root2_names, None)))
unfolding compile.command compile.timed compile.returning lowering.alone
select_is s place tree has =
    let it = selects_root2 tree in
    let T = table_of root2_table tree in
    compiled_is s select_root2 it.parsed _ it.first_is (rw (it.statement_is, it.no_formats) refl) (rw it.statement_is refl)
    (rw it.statement_is (read_is s (codes "root2") place T has.found it.x0 it.x1 it.x2 0 1 2 version_column profile_column bytes_column it.shows0 it.shows1 it.shows2 it.src it.from has.named it.core it.core_is
    it.column 0 version_column it.at it.is refl it.srt it.e it.sort it.up it.plain it.by it.sel it.no_with it.core_of it.alone it.sorted it.no_limit it.no_offset
    (found_first (λ (t : Table). t.tree == tree) 0 place place s.tables T has.first (omega arith) has.found) (low_tree tree has.low) refl))

pub reads_root2 : (s : Schema) (place tree : ℕ) → HasSecond s place tree → Reads s select_root2 tree root2_cells (rises ∷ [])
unfolding everything
reads_root2 s place tree has =
    let all = select_is s place tree has in
    let whole = understood_is s select_root2 (selects_root2 tree).parsed _ all in
    record {
      terms = root2_terms;
      order = (col 1 0, rises) ∷ [];
      names = root2_names;
      is = ap command_of whole;
      plain = subst IsPlain (sym whole) (refl, refl);
      unlisted = ap misses_table all;
      quiet = λ _ _. refl;
      cells = λ r. refl;
      keyed = λ r s. refl;
    }
