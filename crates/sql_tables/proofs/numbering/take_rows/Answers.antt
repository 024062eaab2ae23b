use Rattle.std.proofs.Common.{map, sym, ap, subst}
use Rattle.std.specs.List.Sorted.{IsPermutation}
use Rattle.std.proofs.lemmas.List.Sorted.{IsPermutation-map}
use Rattle.sqlite.specs.declared.types.Value.TheVariants.{Int}
use Rattle.sqlite.specs.Schema.{Schema}
use Rattle.sqlite.specs.Given.{IsPlain}
use Rattle.sqlite.specs.Listing.{understood}
use Rattle.sqlite.specs.Held.{state}
use Rattle.sql_tables.proofs.Queries.{read_rows, read_same}
use Rattle.sql_tables.proofs.numbering.take_rows.Goals as goal

pub returns-clause-rows : goal.returns-clause-rows
returns-clause-rows g c starts =
    let it = c.in_ok-each_row.ensures.rows (starts, λ _. sym (ap (map Int) c.new.ensures.items)) in (
      it.0,
      it.1.0,
      λ once.
          let told = c.come_once-once.ensures once in
          let ids = c.each_row.new.taker.ids.items in
          let given : IsPermutation ids told.1.0 = subst (λ vs. IsPermutation vs told.1.0) c.as_mut_slice.ensures.value told.1.1 in
          (told.1.0, subst (λ vs. IsPermutation vs (map Int told.1.0)) (sym (it.1.1 told.0)) (IsPermutation-map Int ids told.1.0 given), told.1.2),
      λ clean schema tree shown keys reads has.
          let plain = subst (λ (s : Schema). IsPlain (understood s c.args.sql.now)) (sym has) reads.plain in
          read_rows reads (state g.S.Store c.args.conn.now) (state g.S.Store c.each_row.new.conn) it.0 has (it.2 clean plain),
    )

pub returns-clause-unchanged : goal.returns-clause-unchanged
returns-clause-unchanged g c clean schema tree shown keys reads has starts =
    let plain = subst (λ (s : Schema). IsPlain (understood s c.args.sql.now)) (sym has) reads.plain in
    let it = c.in_ok-each_row.ensures.rows (starts, λ _. sym (ap (map Int) c.new.ensures.items)) in
    read_same reads (state g.S.Store c.args.conn.now) (state g.S.Store c.each_row.new.conn) it.0 has (it.2 clean plain)
