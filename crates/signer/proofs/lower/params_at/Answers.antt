use Rattle.std.proofs.Common.{map, refl}
use Rattle.keys_roles.specs.Views.{id_text}
use Rattle.leaf_plans.specs.Views.{kept_view}
use Rattle.signer.proofs.KeptTrees.{kept_as, named_at}
use Rattle.signer.proofs.lower.params_at.Goals as goal

pub returns-in-Some : goal.returns-in-Some
returns-in-Some g c =
    named_at c.args.book.now.book c.rests.ensures.right (id_text c.args.top.now) c.args.q c.in-Some.message.now c.params_in.result
    (kept_as c.args.book.now.book (map kept_view c.kept.result.now) (id_text c.args.top.now) (id_text c.args.top.now) c.args.q c.in-Some.message.now c.kept.ensures refl c.in-Some.ensures)
    c.params_in.ensures
