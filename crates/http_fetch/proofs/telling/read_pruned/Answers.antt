use Rattle.std.proofs.Common.{◌∙◌}
use Rattle.http_messages.proofs.Answered.{if-none}
use Rattle.http_fetch.proofs.Pieces.{pruned_is}
use Rattle.http_fetch.proofs.telling.read_pruned.Goals as goal

pub returns-in_err-blobs-clause-none : goal.returns-in_err-blobs-clause-none
returns-in_err-blobs-clause-none c = if-none c.from_residual.result _ (λ a b ha hb e. c.in_err-blobs.ensures.none a b ha hb (e ∙ pruned_is a b))
