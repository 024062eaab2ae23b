use Rattle.std.proofs.Common.{ap, ◌∙◌}
use Rattle.std.proofs.Common.{map}
use Rattle.keys_roles.specs.Views.{id_text}
use Rattle.leaf_plans.specs.Views.{kept_view}
use Rattle.signer.specs.Below.{top_of}
use Rattle.signer.specs.Levels.{key_by}
use Rattle.signer.proofs.KeptTrees.{kept_as, no_tree}
use Rattle.signer.proofs.trees.tree_at.Goals as goal

pub returns-then-not-is_key_below : goal.returns-then-not-is_key_below
returns-then-not-is_key_below g c =
    no_tree c.args.book.now.book c.rests.ensures.right c.args.pair.now c.args.q c.in-Some.message.now
    (kept_as c.args.book.now.book (map kept_view c.kept.result.now) (id_text c.id_of-top.result) (key_by (top_of c.args.pair.now)) c.args.q c.in-Some.message.now
    c.kept.ensures (c.id_of-top.ensures ∙ ap key_by c.top.ensures) c.in-Some.ensures)
    c.if-not-is_key_below.ensures.key

pub returns : goal.returns
returns g c = (
  c.in-Some.message.now,
  (
    kept_as c.args.book.now.book (map kept_view c.kept.result.now) (id_text c.id_of-top.result) (key_by (top_of c.args.pair.now)) c.args.q c.in-Some.message.now
        c.kept.ensures (c.id_of-top.ensures ∙ ap key_by c.top.ensures) c.in-Some.ensures,
    c.if-not-is_key_below.ensures.key,
  ),
  c.lms_id.ensures,
)
