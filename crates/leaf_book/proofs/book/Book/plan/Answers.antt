use Rattle.std.proofs.Common.{subst, subst₂}
use Rattle.keys_roles.specs.Views.{id_text}
use Rattle.leaf_plans.specs.Views.{book_view}
use Rattle.leaf_plans.specs.Planning.{IsPlan}
use Rattle.leaf_book.proofs.book.Book.plan.Goals as goal

pub returns : goal.returns
returns g c =
    subst (λ s. IsPlan s.book (id_text c.args.key.now) c.args.message.now c.plan_for.result) c.self.view_is
    (subst₂ (λ ss es. IsPlan (book_view ss es) (id_text c.args.key.now) c.args.message.now c.plan_for.result) c.as_slice.ensures.value c.as_slice-2.ensures.value c.plan_for.ensures)
