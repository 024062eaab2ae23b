use Rattle.std.proofs.Common.{inl, inr, refl, ap, subst, ◌∙◌}
use Rattle.keys_roles.specs.Views.{id_text}
use Rattle.signer.specs.Below.{HasNoTreeFor, IsTreeFor, top_of}
use Rattle.signer.proofs.BelowOnce.{begun_in, leaf_in, no_leaf_in, signed_in, unsigned_in, verifies_in}
use Rattle.signer.proofs.files_below.sign_by_tree.Goals as goal

pub returns-in_default-clause-unsigned : goal.returns-in_default-clause-unsigned
returns-in_default-clause-unsigned g c =
    inl (refl, subst (λ s. HasNoTreeFor c.args.book.now.book s c.args.message.now) c.pair-2.ensures c.in_default.ensures, refl)

pub returns-then-not-is_leaf_for-clause-unsigned : goal.returns-then-not-is_leaf_for-clause-unsigned
returns-then-not-is_leaf_for-clause-unsigned g c =
    let b = c.args.book.now.book in
    let p = c.args.signer.now in
    let message = c.args.message.now in
    let q = c.in-Some.q in
    let at = subst (λ s. IsTreeFor b s message q) c.pair-2.ensures c.in-Some.ensures in
    let lacks = no_leaf_in b p message q c.top.result.now c.in-Ok.tree (c.top.ensures ∙ ap top_of c.pair.ensures) c.in-Ok.ensures.tree
    (id_text c.id_of-top.result) c.public.result c.id_of-top.ensures c.public.ensures c.if-not-is_leaf_for.ensures in
    inr (inl (refl, (q, at, lacks), refl))

pub returns-then-not-is_leaf_for-clause-crash : goal.returns-then-not-is_leaf_for-clause-crash
returns-then-not-is_leaf_for-clause-crash g c clean was trees may = (c.args.book.now.book, inl refl, c.rests.ensures.left clean was trees may)

pub returns-in-Ok-made-clause-signs : goal.returns-in-Ok-made-clause-signs
returns-in-Ok-made-clause-signs g c =
    let b = c.args.book.now.book in
    let p = c.args.signer.now in
    let message = c.args.message.now in
    let q = c.in-Some.q in
    let at = subst (λ s. IsTreeFor b s message q) c.pair-2.ensures c.in-Some.ensures in
    let leaf = leaf_in b p message q c.top.result.now c.in-Ok.tree (c.top.ensures ∙ ap top_of c.pair.ensures) c.in-Ok.ensures.tree
    (id_text c.id_of-top.result) c.public.result c.id_of-top.ensures c.public.ensures c.if-not-is_leaf_for.ensures in
    signed_in b p message q c.top-2.result.now c.in-Ok.tree (c.top-2.ensures ∙ ap top_of (c.pair-3.ensures ∙ c.take_tree.ensures.same)) c.in-Ok.ensures.tree
    c.sign_below-made.new.book.book c.in-Ok-made.signature.items (at, leaf) c.in-Ok-made.ensures.signs

pub returns-in-Ok-made-clause-verifies : goal.returns-in-Ok-made-clause-verifies
returns-in-Ok-made-clause-verifies g c =
    verifies_in c.args.book.now.book c.args.signer.now c.args.message.now c.in-Some.q c.top-2.result.now c.in-Ok.tree
    (c.top-2.ensures ∙ ap top_of (c.pair-3.ensures ∙ c.take_tree.ensures.same)) c.in-Ok.ensures.tree
    c.in-Ok-made.signature.items c.in-Ok-made.ensures.verifies

pub returns-in-Ok-made-clause-crash : goal.returns-in-Ok-made-clause-crash
returns-in-Ok-made-clause-crash g c clean was trees may =
    let b = c.args.book.now.book in
    let p = c.args.signer.now in
    let message = c.args.message.now in
    let q = c.in-Some.q in
    let at = subst (λ s. IsTreeFor b s message q) c.pair-2.ensures c.in-Some.ensures in
    let leaf = leaf_in b p message q c.top.result.now c.in-Ok.tree (c.top.ensures ∙ ap top_of c.pair.ensures) c.in-Ok.ensures.tree
    (id_text c.id_of-top.result) c.public.result c.id_of-top.ensures c.public.ensures c.if-not-is_leaf_for.ensures in
    let left = c.sign_below-made.ensures.crash clean was trees may in (
      left.0,
      begun_in b p message q c.top-2.result.now c.in-Ok.tree (c.top-2.ensures ∙ ap top_of (c.pair-3.ensures ∙ c.take_tree.ensures.same)) c.in-Ok.ensures.tree left.0 (at, leaf) left.1,
      left.2,
    )

pub returns-in-Err-made-clause-unsigned : goal.returns-in-Err-made-clause-unsigned
returns-in-Err-made-clause-unsigned g c =
    let b = c.args.book.now.book in
    let p = c.args.signer.now in
    let message = c.args.message.now in
    let q = c.in-Some.q in
    let at = subst (λ s. IsTreeFor b s message q) c.pair-2.ensures c.in-Some.ensures in
    let leaf = leaf_in b p message q c.top.result.now c.in-Ok.tree (c.top.ensures ∙ ap top_of c.pair.ensures) c.in-Ok.ensures.tree
    (id_text c.id_of-top.result) c.public.result c.id_of-top.ensures c.public.ensures c.if-not-is_leaf_for.ensures in
    unsigned_in b p message q c.top-2.result.now c.in-Ok.tree (c.top-2.ensures ∙ ap top_of (c.pair-3.ensures ∙ c.take_tree.ensures.same)) c.in-Ok.ensures.tree
    c.sign_below-made.new.book.book c.in-Err-made.fault (at, leaf) c.in-Err-made.ensures.unsigned

pub returns-in-Err-made-clause-crash : goal.returns-in-Err-made-clause-crash
returns-in-Err-made-clause-crash g c clean was trees may =
    let b = c.args.book.now.book in
    let p = c.args.signer.now in
    let message = c.args.message.now in
    let q = c.in-Some.q in
    let at = subst (λ s. IsTreeFor b s message q) c.pair-2.ensures c.in-Some.ensures in
    let leaf = leaf_in b p message q c.top.result.now c.in-Ok.tree (c.top.ensures ∙ ap top_of c.pair.ensures) c.in-Ok.ensures.tree
    (id_text c.id_of-top.result) c.public.result c.id_of-top.ensures c.public.ensures c.if-not-is_leaf_for.ensures in
    let left = c.sign_below-made.ensures.crash clean was trees may in (
      left.0,
      begun_in b p message q c.top-2.result.now c.in-Ok.tree (c.top-2.ensures ∙ ap top_of (c.pair-3.ensures ∙ c.take_tree.ensures.same)) c.in-Ok.ensures.tree left.0 (at, leaf) left.1,
      left.2,
    )
