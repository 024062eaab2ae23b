use Rattle.metadata.proofs.OneDocument.{document-once}
use Rattle.metadata.proofs.one_document.Goals as goal

pub returns : goal.returns
returns c = document-once c.one_spelling.ensures.one_value
