use Rattle.std.proofs.Common.{◌≡◌, ◌≢◌, inl, inr, refl, sym, ◌∙◌, rules}
use Rattle.leaf_plans.specs.Views.{kept_view}
use Rattle.leaf_book.proofs.reading.beside.Goals as goal

pub returns-else-same_message : goal.returns-else-same_message
returns-else-same_message c =
    let leaf : c.args.other.now.leaf ≡ c.args.kept.now.leaf = search rules in
    (kept_view c.args.other.now, inl refl, (c.if-not-same_id.ensures.same.0 refl, inl (leaf, λ same. c.if-same_message.ensures (c.as_slice.ensures.value ∙ same ∙ sym c.as_slice-2.ensures.value))))

pub returns-then-same_message-2 : goal.returns-then-same_message-2
returns-then-same_message-2 c =
    let leaf : c.args.other.now.leaf ≢ c.args.kept.now.leaf = search rules in
    (kept_view c.args.other.now, inl refl, (c.if-not-same_id.ensures.same.0 refl, inr (leaf, sym c.as_slice.ensures.value ∙ c.if-same_message-2.ensures ∙ c.as_slice-2.ensures.value)))
