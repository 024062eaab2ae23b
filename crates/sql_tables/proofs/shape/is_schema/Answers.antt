use Rattle.std.proofs.Common.{◌≡◌, ◌++◌, ◌∙◌, [], map, ap, sym}
use Rattle.std.proofs.lemmas.List.{append_cancel_left}
use Rattle.sqlite.specs.Schema.{Schema}
use Rattle.sql_tables.specs.Described.{described_view, indexes_from, tables_from}
use Rattle.sql_tables.proofs.Shapes.{followed_by_none, none_behind}
use Rattle.sql_tables.proofs.shape.is_schema.Goals as goal

pub returns-in-Some-clause-other : goal.returns-in-Some-clause-other
returns-in-Some-clause-other c is =
    let ds = map described_view c.args.described.now in
    let same = sym c.in-Some.ensures ∙ is ∙ sym (followed_by_none ds) in
    let tables : tables_from 0 ds ++ c.in-Some.tables.now ≡ tables_from 0 ds ++ [] = ap (λ (s : Schema). s.tables) same in
    let indexes : indexes_from 0 ds ++ c.in-Some.indexes.now ≡ indexes_from 0 ds ++ [] = ap (λ (s : Schema). s.indexes) same in
    c.are_none.ensures.other (append_cancel_left _ _ _ tables, append_cancel_left _ _ _ indexes, c.as_slice.ensures ∙ ap (λ (s : Schema). s.views) is)

pub returns-in-None-clause-other : goal.returns-in-None-clause-other
returns-in-None-clause-other c is = absurd (c.in-None.ensures none_behind (is ∙ sym (followed_by_none (map described_view c.args.described.now))))
