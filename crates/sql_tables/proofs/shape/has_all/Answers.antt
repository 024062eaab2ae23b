use Rattle.std.proofs.Common.{◌≡◌, ◌++◌, ◌∙◌, List, map, ap, sym, subst}
use Rattle.std.specs.List.{AllByRecursion}
use Rattle.std.proofs.lemmas.List.{append_cancel_left}
use Rattle.sqlite.specs.Schema.{Schema}
use Rattle.sqlite.specs.Table.{Table}
use Rattle.sql_tables.specs.Described.{IsFurther, described_view, tables_from}
use Rattle.sql_tables.proofs.shape.has_all.Goals as goal

pub returns-in-Some-clause-same : goal.returns-in-Some-clause-same
returns-in-Some-clause-same c good = (record { tables = c.in-Some.tables.now; indexes = c.in-Some.field-0-1.now; views = c.args.schema.now.views }, c.in-Some.ensures, c.are_further.ensures.same good)

pub returns-in-Some-clause-other : goal.returns-in-Some-clause-other
returns-in-Some-clause-other c has =
    let ds = map described_view c.args.described.now in
    let same : tables_from 0 ds ++ c.in-Some.tables.now ≡ tables_from 0 ds ++ has.0.tables = ap (λ (s : Schema). s.tables) (sym c.in-Some.ensures ∙ has.1) in
    c.are_further.ensures.other (subst (λ (ts : List Table). AllByRecursion (IsFurther ds) ts) (sym (append_cancel_left _ _ _ same)) has.2)
