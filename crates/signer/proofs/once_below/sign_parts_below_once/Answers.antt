use Rattle.std.proofs.Common.{ℕ, List, inl, inr, refl, ap, subst, ◌∙◌}
use Rattle.keys_roles.specs.Views.{entries_view}
use Rattle.signer.specs.Below.{IsRivalBelow, top_of}
use Rattle.signer.specs.Levels.{key_by}
use Rattle.signer.proofs.BelowOnce.{lacks_below_of}
use Rattle.signer.proofs.once_below.sign_parts_below_once.Goals as goal

pub returns-in-Ok-clause-signed : goal.returns-in-Ok-clause-signed
returns-in-Ok-clause-signed g c bytes f = (
  c.in-Ok.ensures.signed bytes f,
  lacks_below_of c.one_spelling.ensures.one_value c.args.book.now.book _ bytes (entries_view c.args.file.now.signatures.items) c.args.file.now.signed.now f
      (subst (λ (key : List ℕ). (leaf : ℕ) → IsRivalBelow c.args.book.now.book key c.args.file.now.signed.now leaf → ⊥)
      (c.id_of-top.ensures ∙ ap key_by (c.top.ensures ∙ ap top_of c.pair.ensures)) (rw c.in-Ok-None.field-0-is at c.in-Ok-None.ensures)),
)

pub returns-in-Err-sign_parts_below-clause-unsigned : goal.returns-in-Err-sign_parts_below-clause-unsigned
returns-in-Err-sign_parts_below-clause-unsigned g c bytes f = (
  c.in-Err-sign_parts_below.ensures.unsigned bytes f,
  inl (
      lacks_below_of c.one_spelling.ensures.one_value c.args.book.now.book _ bytes (entries_view c.args.file.now.signatures.items) c.args.file.now.signed.now f
      (subst (λ (key : List ℕ). (leaf : ℕ) → IsRivalBelow c.args.book.now.book key c.args.file.now.signed.now leaf → ⊥)
      (c.id_of-top.ensures ∙ ap key_by (c.top.ensures ∙ ap top_of c.pair.ensures)) (rw c.in-Ok-None.field-0-is at c.in-Ok-None.ensures))),
)

pub returns-in-Ok-clause-crash : goal.returns-in-Ok-clause-crash
returns-in-Ok-clause-crash g c clean was trees may =
    let left = c.sign_parts_below.ensures.crash clean was trees may in (
      left.0,
      inr (λ bytes f. (
        inr (entries_view c.args.file.now.signatures.items, c.args.file.now.signed.now, f, left.1),
        inl (
            lacks_below_of c.one_spelling.ensures.one_value c.args.book.now.book _ bytes (entries_view c.args.file.now.signatures.items) c.args.file.now.signed.now f
            (subst (λ (key : List ℕ). (leaf : ℕ) → IsRivalBelow c.args.book.now.book key c.args.file.now.signed.now leaf → ⊥)
            (c.id_of-top.ensures ∙ ap key_by (c.top.ensures ∙ ap top_of c.pair.ensures)) (rw c.in-Ok-None.field-0-is at c.in-Ok-None.ensures))),
      )),
      left.2,
    )

pub returns-in-Err-sign_parts_below-clause-crash : goal.returns-in-Err-sign_parts_below-clause-crash
returns-in-Err-sign_parts_below-clause-crash g c clean was trees may =
    let left = c.sign_parts_below.ensures.crash clean was trees may in (
      left.0,
      inr (λ bytes f. (
        inr (entries_view c.args.file.now.signatures.items, c.args.file.now.signed.now, f, left.1),
        inl (
            lacks_below_of c.one_spelling.ensures.one_value c.args.book.now.book _ bytes (entries_view c.args.file.now.signatures.items) c.args.file.now.signed.now f
            (subst (λ (key : List ℕ). (leaf : ℕ) → IsRivalBelow c.args.book.now.book key c.args.file.now.signed.now leaf → ⊥)
            (c.id_of-top.ensures ∙ ap key_by (c.top.ensures ∙ ap top_of c.pair.ensures)) (rw c.in-Ok-None.field-0-is at c.in-Ok-None.ensures))),
      )),
      left.2,
    )

pub returns-in-Ok-Some-clause-crash : goal.returns-in-Ok-Some-clause-crash
returns-in-Ok-Some-clause-crash g c clean was trees may = (c.args.book.now.book, inl refl, c.rests.ensures.left clean was trees may)

pub returns-in-Err-clause-crash : goal.returns-in-Err-clause-crash
returns-in-Err-clause-crash g c clean was trees may = (c.args.book.now.book, inl refl, c.rests.ensures.left clean was trees may)

pub returns-in-Ok-Some-clause-unsigned : goal.returns-in-Ok-Some-clause-unsigned
returns-in-Ok-Some-clause-unsigned g c bytes f = (
  (
    entries_view c.args.file.now.signatures.items,
    c.args.file.now.signed.now,
    f,
    subst (λ (key : List ℕ). IsRivalBelow c.args.book.now.book key c.args.file.now.signed.now c.in-Ok-Some.leaf)
        (c.id_of-top.ensures ∙ ap key_by (c.top.ensures ∙ ap top_of c.pair.ensures)) (rw c.in-Ok-Some.field-0-is at c.in-Ok-Some.ensures),
  ),
  refl,
)
