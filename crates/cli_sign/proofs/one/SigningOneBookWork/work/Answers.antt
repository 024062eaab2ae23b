use Rattle.std.proofs.Common.{[], refl}
use Rattle.cli_sign.proofs.one.SigningOneBookWork.work.Goals as goal

-- nothing has happened to the book
pub returns-in_err-judge-clause-leads : goal.returns-in_err-judge-clause-leads
returns-in_err-judge-clause-leads g c = ([], λ made. (made, refl))

pub returns-then-is_none-clause-leads : goal.returns-then-is_none-clause-leads
returns-then-is_none-clause-leads g c = ([], λ made. (made, refl))
