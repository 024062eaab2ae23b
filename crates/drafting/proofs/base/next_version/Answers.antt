use Rattle.std.proofs.Common.{ℕ, List, Option, option_map, Bor, ap}
use Rattle.drafting.specs.Drafts.{File}
use Rattle.drafting.proofs.Refusals.{or_last, unheld}
use Rattle.drafting.proofs.base.next_version.Goals as goal

abbrev file_of : Option (Bor (List ℕ)) → Option File
file_of f = option_map (λ b. b.now) f

pub returns-in-Err-clause-err : goal.returns-in-Err-clause-err
returns-in-Err-clause-err c =
    or_last (unheld c.args.kind (file_of c.args.held) c.in-Some.file.now c.held_fault.result (ap file_of c.in-Some.is)
    (c.held_fault.ensures.denial c.args.kind c.in-Some.file.now c.in-Err.ensures.err))
