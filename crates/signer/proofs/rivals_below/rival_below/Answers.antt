use Rattle.std.proofs.Common.{ℕ, Option, MatchOption, map}
use Rattle.keys_roles.specs.Views.{id_text}
use Rattle.leaf_plans.specs.Views.{kept_view}
use Rattle.signer.specs.Below.{IsRivalBelow}
use Rattle.signer.proofs.RivalsBelow.{IsUnderIn, LacksUnder, under}
use Rattle.signer.proofs.SignedFiles.{if_ok}
use Rattle.signer.proofs.rivals_below.rival_below.Goals as goal

pub returns : goal.returns
returns g c =
    let b = c.args.book.now.book in
    let rows = map kept_view c.kept-leaves.result.now in
    let top = id_text c.args.top.now in
    let message = c.args.message.now in
    if_ok (λ (found : Option ℕ). MatchOption found (LacksUnder rows top message) (λ leaf. IsUnderIn rows top message leaf))
    (λ (found : Option ℕ). MatchOption found ((leaf : ℕ) → IsRivalBelow b top message leaf → ⊥) (λ leaf. IsRivalBelow b top message leaf))
    c.rival_under.result c.rival_under.ensures
    (λ found h. under b rows top message found c.kept-leaves.ensures (rw c.in-Ok-None.field-0-is at c.in-Ok-None.ensures) h)
