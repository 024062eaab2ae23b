-- A test that came out false, and a search.
use Rattle.std.proofs.Common.{◌≡◌, ◌<◌, ℕ, List, Bool, true, false, MatchBool, MatchOption, Option, Some, None, inr}
use Rattle.lms.specs.Keys.{leaf_count}
use Rattle.lms.specs.declared.Params.{Params}
use Rattle.leaf_plans.specs.Book.{Book, IsRegistered, IsUnused, IsUsed}
use Rattle.leaf_plans.specs.Planning.{HasNoLeaf, IsNextLeaf}

pub when_false : (A B : Type 0) (b : Bool) → b ≡ false → MatchBool b A B → B
when_false A B true is m = absurd (cc)
when_false A B false is m = m

-- the least leaf that is not used, where the key is registered
pub next_by : (b : Book) (key : List ℕ) (params : Params) (found : Option ℕ) → IsRegistered b key params
    → MatchOption found ((n : ℕ) → n < leaf_count params → IsUsed b key n) (λ leaf. (leaf < leaf_count params) × IsUnused b key leaf × ((n : ℕ) → n < leaf → IsUsed b key n))
    → MatchOption found (HasNoLeaf b key) (λ leaf. IsNextLeaf b key leaf)
next_by b key params None is all = inr (params, is, all)
next_by b key params (Some leaf) is h = ((params, is, h.0), record { unused = h.1; least = h.2 })
