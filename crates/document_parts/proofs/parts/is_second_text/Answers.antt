use Rattle.std.proofs.Common.{◌≡◌, true, false, ◌++◌, codes}
use Rattle.document_parts.proofs.parts.is_second_text.Goals as goal

pub returns-in-None : goal.returns-in-None
returns-in-None c = (
  λ t. absurd (let e : false ≡ true = t in cc),
  λ h. absurd (c.in-None.ensures.cases (codes "1.0." ++ h.0) h.1),
)
