use Rattle.std.proofs.Common.{◌≡◌, List, ℕ, false, map, rules, slice_index_or, sym, subst}
use Rattle.std.specs.List.{AllByRecursion}
use Rattle.sqlite_schema.specs.Names.{same_name}
use Rattle.sqlite_schema.specs.declared.schema.Reference.{Reference}
use Rattle.sql_tables.specs.Described.{Description, described_view}
use Rattle.sql_tables.proofs.Shapes.{all_split}
use Rattle.sql_tables.proofs.shape.+are_apart.Goals as goal

pub returns-then-lack_name-clause-same : goal.returns-then-lack_name-clause-same
returns-then-lack_name-clause-same t c rest =
    let P = λ (r : Reference). AllByRecursion (λ (d : Description). same_name d.name r.parent ≡ false) (map described_view c.args.described.now) in
    let same : slice_index_or c.args.references.now 0 c.first-item.result ≡ c.first-item.result = search rules in
    let first : P c.first-item.result = subst (λ (n : List ℕ). AllByRecursion (λ (d : Description). same_name d.name n ≡ false) (map described_view c.args.described.now)) c.as_slice.ensures (c.lack_name.ensures.same c.if-lack_name.true) in
    subst (λ (T : Type 0). T) (sym (all_split P c.args.references.now c.first-item.result c.in-len1-up.len_at_least)) (subst P (sym same) first, c.are_apart.ensures.same rest)

pub returns-else-lack_name-clause-other : goal.returns-else-lack_name-clause-other
returns-else-lack_name-clause-other t c all =
    let P = λ (r : Reference). AllByRecursion (λ (d : Description). same_name d.name r.parent ≡ false) (map described_view c.args.described.now) in
    let both = subst (λ (T : Type 0). T) (all_split P c.args.references.now c.first-item.result c.in-len1-up.len_at_least) all in
    let same : slice_index_or c.args.references.now 0 c.first-item.result ≡ c.first-item.result = search rules in
    c.lack_name.ensures.other (subst (λ (n : List ℕ). AllByRecursion (λ (d : Description). same_name d.name n ≡ false) (map described_view c.args.described.now)) (sym c.as_slice.ensures) (subst P same both.0))
