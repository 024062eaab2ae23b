-- How many of the six tables there are is one number.
use Rattle.std.proofs.Common.{◌≡◌, ◌<◌, ◌≤◌, inl, inr, ℕ, zero, suc, refl, subst, arith}
use Rattle.sqlite.specs.Schema.{Schema}
use Rattle.sql_tables.specs.Described as listed
use Rattle.sql_tables.proofs.Shapes.{all_count}
use Rattle.table_rows.specs.Schema.{HasFirst, HasFive, IsBeginning, IsFree, beginning, five}

-- fewer than five are not the five
few_not_five : (count : ℕ) → count < 5 → HasFive (beginning count) → ⊥
few_not_five zero l has = let n : 5 ≤ 0 = all_count five (beginning 0) has in omega (arith, n)
few_not_five (suc zero) l has = let n : 5 ≤ 1 = all_count five (beginning 1) has in omega (arith, n)
few_not_five (suc (suc zero)) l has = let n : 5 ≤ 2 = all_count five (beginning 2) has in omega (arith, n)
few_not_five (suc (suc (suc zero))) l has = let n : 5 ≤ 3 = all_count five (beginning 3) has in omega (arith, n)
few_not_five (suc (suc (suc (suc zero)))) l has = let n : 5 ≤ 4 = all_count five (beginning 4) has in omega (arith, n)
few_not_five (suc (suc (suc (suc (suc count))))) l has = absurd (omega (arith, l))

-- where `root2` can be made, there are five
pub free_five : (schema : Schema) (count : ℕ) → IsFree schema → HasFirst count schema → count ≡ 5
free_five schema count free (inl few) = absurd (few_not_five count few.0 (subst HasFive few.1 free.five))
free_five schema count free (inr (inl some)) = some.0
free_five schema count free (inr (inr all)) =
    let (has, place, tree, second) = all.1 in
    let none = free.no_table in
    let there = second.named in
    absurd (cc)

pub free_begins : (schema : Schema) → IsFree schema → IsBeginning schema
free_begins schema free = (5, inr (inl (refl, free)))

few_of_five : (count : ℕ) → count < 5 → HasFive (listed.beginning five count) → ⊥
few_of_five zero l has = let n : 5 ≤ 0 = all_count five (listed.beginning five 0) has in omega (arith, n)
few_of_five (suc zero) l has = let n : 5 ≤ 1 = all_count five (listed.beginning five 1) has in omega (arith, n)
few_of_five (suc (suc zero)) l has = let n : 5 ≤ 2 = all_count five (listed.beginning five 2) has in omega (arith, n)
few_of_five (suc (suc (suc zero))) l has = let n : 5 ≤ 3 = all_count five (listed.beginning five 3) has in omega (arith, n)
few_of_five (suc (suc (suc (suc zero)))) l has = let n : 5 ≤ 4 = all_count five (listed.beginning five 4) has in omega (arith, n)
few_of_five (suc (suc (suc (suc (suc count))))) l has = absurd (omega (arith, l))

-- where the five are there, so many of them are counted
pub others_five : (schema : Schema) (count : ℕ) → HasFive schema → listed.HasFirst five count schema → count ≡ 5
others_five schema count has (inl few) = absurd (few_of_five count few.0 (subst HasFive few.1 has))
others_five schema count has (inr all) = all.0

pub five_begin : (schema : Schema) → HasFive schema → listed.IsBeginning five schema
five_begin schema has = (5, inr (refl, has))
