use Rattle.canonical_json.proofs.Longest.{longest_beginning}
use Rattle.canonical_json.proofs.longest_beginning.Goals as goal

pub returns : goal.returns
returns c = longest_beginning
