use Rattle.canonical_json.specs.View.{view}
use Rattle.drafting.proofs.Results.{on_ok}
use Rattle.chain_drafting.proofs.references.put_layout.Goals as goal

pub returns : goal.returns
returns c = on_ok _ _ c.put.result c.put.ensures.puts (λ put. (view c.in_ok-value.value, c.in_ok-value.ensures, put))
