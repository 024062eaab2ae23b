use Rattle.sign_books.proofs.Leading.{then}
use Rattle.sign_books.proofs.new_pairs.RegisteringBookWork.work.Goals as goal

pub returns-in_ok-keep_first_tree-in-Two-clause-leads : goal.returns-in_ok-keep_first_tree-in-Two-clause-leads
returns-in_ok-keep_first_tree-in-Two-clause-leads g c = then _ _ _ c.keep_first_tree.ensures c.register-in-Two.ensures
