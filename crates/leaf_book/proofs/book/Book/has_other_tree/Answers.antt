use Rattle.lms.specs.declared.OtsType.TheVariants.{W8}
use Rattle.leaf_book.proofs.Trees.{each_way, lacks_all}
use Rattle.leaf_book.proofs.book.Book.has_other_tree.Goals as goal

pub returns : goal.returns
returns g c =
    each_way _ _ _ _ c.has_other_wide-4.result c.has_other_wide-4.ensures (λ is. (record { ots = W8; height = is.0 }, is.1, is.2))
    (λ none. lacks_all c.args.self.now.book c.args.seed.now c.args.params c.if-has_other_wide.ensures c.if-has_other_wide-2.ensures c.if-has_other_wide-3.ensures none)
