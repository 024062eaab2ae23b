use Rattle.std.proofs.Common.{[], length, ap, ◌∙◌, arith}
use Rattle.sha2.specs.Sha256.{sha256}
use Rattle.lms.proofs.Placed.{one_placed, ends}
use Rattle.lms.proofs.chains.chain_step.Goals as goal

pub returns-clause-back : goal.returns-clause-back
returns-clause-back c =
    let input = one_placed 22 c.args.input.now c.place.new.target c.args.j c.place.ensures.front c.place.ensures.back in
    let next = c.finish-next.ensures.value _ (c.update.ensures [] c.new-hasher.ensures) in
    let put = ends 23 (length c.finish-next.result) c.place.new.target c.place-2.new.target c.finish-next.result (omega arith) (omega arith) c.place-2.ensures.front in
    put ∙ next ∙ ap sha256 input
