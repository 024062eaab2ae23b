-- Trees of a seed that a book has.
use Rattle.std.proofs.Common.{◌≢◌, Bool, true, false, MatchBool}
use Rattle.lms.specs.declared.OtsType.{OtsType}
use Rattle.lms.specs.declared.OtsType.TheVariants.{W1, W2, W4, W8}
use Rattle.lms.specs.declared.SigningHeight.{SigningHeight}
use Rattle.lms.specs.declared.SigningHeight.TheVariants.{H5, H10}
use Rattle.lms.specs.declared.Params.{Params}
use Rattle.lms.specs.declared.Seed.{Seed}
use Rattle.leaf_plans.specs.Book.{Book, HasTree, LacksOtherTree}

-- what follows of a test, whichever way it came out
pub each_way : (A B C D : Type 0) (b : Bool) → MatchBool b A B → (A → C) → (B → D) → MatchBool b C D
each_way A B C D true m met failed = met m
each_way A B C D false m met failed = failed m

pub both_heights : (P : SigningHeight → Type 0) → P H5 → P H10 → (height : SigningHeight) → P height
both_heights P low high H5 = low
both_heights P low high H10 = high

-- no tree of this width is registered, other than this one
abbrev pub LacksWide : Book → Seed → Params → OtsType → Type 0
LacksWide b seed params ots = (height : SigningHeight) → (record { ots = ots; height = height }) ≢ params → HasTree b seed (record { ots = ots; height = height }) → ⊥

each_width : (P : OtsType → Type 0) → P W1 → P W2 → P W4 → P W8 → (ots : OtsType) → P ots
each_width P one two four eight W1 = one
each_width P one two four eight W2 = two
each_width P one two four eight W4 = four
each_width P one two four eight W8 = eight

pub lacks_all : (b : Book) (seed : Seed) (params : Params) → LacksWide b seed params W1 → LacksWide b seed params W2 → LacksWide b seed params W4 → LacksWide b seed params W8 → LacksOtherTree b seed params
lacks_all b seed params one two four eight other = each_width (LacksWide b seed params) one two four eight other.ots other.height
