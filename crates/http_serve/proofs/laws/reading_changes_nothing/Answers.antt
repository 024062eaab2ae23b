use Rattle.http_serve.proofs.Reading.{changes-nothing}
use Rattle.http_serve.proofs.laws.reading_changes_nothing.Goals as goal

pub returns : goal.returns
returns c = changes-nothing
