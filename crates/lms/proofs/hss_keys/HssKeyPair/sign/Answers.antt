use Rattle.std.proofs.Common.{ℕ, List, [], ◌∷◌, sym, subst, arith}
use Rattle.lms.specs.Hss.{VerifiesHss}
use Rattle.lms.specs.HssKeys.{hss_public_of}
use Rattle.lms.proofs.HssLaws.{hss_verifies}
use Rattle.lms.proofs.hss_keys.HssKeyPair.sign.Goals as goal

pub returns-in-Ok-clause-verifies : goal.returns-in-Ok-clause-verifies
returns-in-Ok-clause-verifies c =
    let seed = c.args.self.now.seed in
    let levels = c.args.self.now.levels in
    let V : List ℕ → Type 0 = λ s. VerifiesHss (hss_public_of seed levels) c.args.message.now s in
    subst V (sym c.in-Ok.ensures)
    (hss_verifies levels.top (levels.bottom ∷ []) seed.identifier seed.secret c.args.g c.args.message.now c.sized.ensures (omega arith)
    (omega (arith, c.if-g-message_count.false, c.message_count.ensures.value)))
