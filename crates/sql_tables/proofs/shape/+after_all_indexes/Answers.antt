use Rattle.std.proofs.Common.{◌+◌, ◌-◌, ◌++◌, ◌∙◌, List, ap, arith, drop, length, map, slice_index_or, sym, take}
use Rattle.std.proofs.lemmas.List.{append_assoc, append_cancel_left}
use Rattle.sqlite_schema.specs.declared.schema.Index.{Index}
use Rattle.sql_tables.specs.Described.{described_view, indexes_at, indexes_from, past_table}
use Rattle.sql_tables.proofs.Shapes.{blank, first_count, first_fits, indexes_split, matched}
use Rattle.sql_tables.proofs.shape.+after_all_indexes.Goals as goal

pub overflow_add-tree : goal.overflow_add-tree
overflow_add-tree t c = omega (arith, c.requires, first_fits c.args.tree c.args.described.now blank c.in-len1-up.len_at_least)

pub after_indexes-requires : goal.after_indexes-requires
after_indexes-requires t c = omega (arith, c.requires, first_fits c.args.tree c.args.described.now blank c.in-len1-up.len_at_least, first_count c.args.described.now blank)

pub past-requires : goal.past-requires
past-requires t c = omega (arith, c.requires, first_fits c.args.tree c.args.described.now blank c.in-len1-up.len_at_least)

pub returns-in-None : goal.returns-in-None
returns-in-None t c rest is =
    let first = described_view (slice_index_or c.args.described.now 0 blank) in
    let more = indexes_from (past_table first c.args.tree) (map described_view (take (length c.args.described.now - 1) (drop 1 c.args.described.now))) in
    c.in-None.ensures (more ++ rest) (is ∙ ap (λ (is : List Index). is ++ rest) (indexes_split c.args.tree c.args.described.now blank c.in-len1-up.len_at_least) ∙ append_assoc (indexes_at c.args.tree first.uniques (c.args.tree + 1)) more rest)

pub returns-in-Some : goal.returns-in-Some
returns-in-Some t c =
    let first = described_view (slice_index_or c.args.described.now 0 blank) in
    let others = map described_view (take (length c.args.described.now - 1) (drop 1 c.args.described.now)) in
    let own = indexes_at c.args.tree first.uniques (c.args.tree + 1) in
    let split = λ (rest : List Index). ap (λ (is : List Index). is ++ rest) (indexes_split c.args.tree c.args.described.now blank c.in-len1-up.len_at_least ∙ ap (λ tree. own ++ indexes_from tree others) (sym c.past.ensures)) ∙ append_assoc own (indexes_from c.past.result others) rest in
    matched c.after_all_indexes.result c.after_all_indexes.ensures
    (λ none rest is. none rest (append_cancel_left _ _ _ (sym c.in-Some.ensures ∙ is ∙ split rest)))
    (λ rest is. c.in-Some.ensures ∙ ap (λ (is : List Index). own ++ is) is ∙ sym (split rest.now))
