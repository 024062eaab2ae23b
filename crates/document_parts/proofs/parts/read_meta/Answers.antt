use Rattle.document_parts.proofs.parts.read_meta.Goals as goal

pub returns-in_default : goal.returns-in_default
returns-in_default c m h = c.in_default.ensures m.version h.0
