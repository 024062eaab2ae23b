use Rattle.lms.specs.declared.SigningHeight.TheVariants.{H10}
use Rattle.leaf_book.proofs.Trees.{both_heights, each_way}
use Rattle.leaf_book.proofs.book.Book.has_other_wide.Goals as goal

pub returns : goal.returns
returns g c =
    each_way _ _ _ _ c.has_other-2.result c.has_other-2.ensures (λ is. (H10, is.0, is.1))
    (λ none. both_heights _ c.if-has_other.ensures none)
