use Rattle.canonical_json.specs.View.{view}
use Rattle.document_parts.proofs.KeyObjects.{no_key}
use Rattle.document_parts.proofs.keys.read_key.Goals as goal

pub returns-in_default : goal.returns-in_default
returns-in_default c k h = no_key (view c.args.value.now) c.in_default.ensures k h
