use Rattle.std.proofs.lemmas.Bool.Decides.{Decides-eqb}
use Rattle.std.proofs.lemmas.Slice.Eq.{starts_is}
use Rattle.chain_drafting.proofs.finding.begin_with.Goals as goal

pub returns : goal.returns
returns c =
    let h = starts_is Decides-eqb c.args.digits.now c.args.word.now c.starts_with.result c.starts_with.ensures.value in
    (λ t. (_, h.0 t), λ m. h.1 m.0 m.1)
