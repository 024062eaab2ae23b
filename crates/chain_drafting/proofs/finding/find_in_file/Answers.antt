use Rattle.std.proofs.lemmas.Result.{IfOk-weaker}
use Rattle.chain_drafting.proofs.Finds.{finds_by}
use Rattle.chain_drafting.proofs.finding.find_in_file.Goals as goal

pub returns-in-Ok-clause-found : goal.returns-in-Ok-clause-found
returns-in-Ok-clause-found c = IfOk-weaker c.find_in_document.result _ _ (λ f h. finds_by _ _ _ _ _ c.in-Ok.ensures.document h) c.find_in_document.ensures.found
