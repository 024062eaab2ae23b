use Rattle.std.proofs.Common.{MatchOption, subst, subst₂}
use Rattle.keys_roles.specs.Views.{id_text}
use Rattle.leaf_plans.specs.Views.{book_view}
use Rattle.leaf_plans.specs.Planning.{HasNoLeaf, IsNextLeaf}
use Rattle.leaf_book.proofs.book.Book.next_leaf.Goals as goal

pub returns : goal.returns
returns g c =
    subst (λ s. MatchOption c.next_leaf.result (HasNoLeaf s.book (id_text c.args.key.now)) (λ leaf. IsNextLeaf s.book (id_text c.args.key.now) leaf)) c.self.view_is
    (subst₂ (λ ss es. MatchOption c.next_leaf.result (HasNoLeaf (book_view ss es) (id_text c.args.key.now)) (λ leaf. IsNextLeaf (book_view ss es) (id_text c.args.key.now) leaf))
    c.as_slice.ensures.value c.as_slice-2.ensures.value c.next_leaf.ensures)
