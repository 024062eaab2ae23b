use Rattle.std.proofs.Common.{◌≡◌, ◌<◌, ◌∙◌, inl, inr, length, map, take, ap, arith, sym, true≢false}
use Rattle.std.proofs.lemmas.List.{length-map}
use Rattle.sql_tables.specs.Described.{described_view, past_all, schema_of}
use Rattle.sql_tables.proofs.Shapes.{all_count, counted_by, mapped_take, past_taken}
use Rattle.sql_tables.proofs.shape.beginning_of.Goals as goal

pub returns-else-has_all : goal.returns-else-has_all
returns-else-has_all c (count, inl first) = absurd (omega (arith, first.0, counted_by (map described_view c.args.described.now) count c.args.schema.now first.0 first.1, length-map c.args.described.now described_view, c.len-count.ensures, c.if-count-described.true))
returns-else-has_all c (count, inr all) = absurd (true≢false (sym (c.has_all.ensures.other all.1) ∙ c.if-has_all.false))

pub is_schema-requires : goal.is_schema-requires
is_schema-requires c =
    let ds = map described_view c.args.described.now in
    omega (arith, c.requires, past_taken 0 c.len-count.result ds, ap (past_all 0) (mapped_take described_view c.len-count.result c.args.described.now))

pub returns-then-not-is_schema : goal.returns-then-not-is_schema
returns-then-not-is_schema c (count, inr all) = absurd (omega (arith, all_count (map described_view c.args.described.now) c.args.schema.now all.1, length-map c.args.described.now described_view, c.len-count.ensures, c.if-count-described.false))
returns-then-not-is_schema c (count, inl first) =
    let ds = map described_view c.args.described.now in
    let here : count ≡ c.len-count.result = omega (arith, counted_by ds count c.args.schema.now first.0 first.1, c.len-count.ensures) in
    let same = first.1 ∙ ap (λ n. schema_of (take n ds)) here ∙ ap schema_of (sym (mapped_take described_view c.len-count.result c.args.described.now)) in
    true≢false (sym (c.is_schema.ensures.other same) ∙ c.if-not-is_schema.true)

pub returns : goal.returns
returns c =
    let few : c.len-count.result < length (map described_view c.args.described.now) = omega (arith, c.if-count-described.false, length-map c.args.described.now described_view) in
    inl (few, c.is_schema.ensures.same c.if-not-is_schema.false ∙ ap schema_of (mapped_take described_view c.len-count.result c.args.described.now))
