use Rattle.document_parts.proofs.head.read_head.Goals as goal

pub returns-in_err-version : goal.returns-in_err-version
returns-in_err-version c = rw c.from_residual.ensures (λ version expires h. c.in_err-version.ensures version h.1)

pub returns-in_err-expires : goal.returns-in_err-expires
returns-in_err-expires c = rw c.from_residual-in_err-expires.ensures (λ version expires h. c.in_err-expires.ensures expires h.2)
