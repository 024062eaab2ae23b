use Rattle.http_fetch.proofs.refusing.read_refusal.Goals as goal

pub returns-in_default-clause-none : goal.returns-in_default-clause-none
returns-in_default-clause-none c = λ status h. absurd (c.in_default.ensures.none status h)
