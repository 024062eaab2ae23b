use Rattle.metadata.proofs.timestamp.read_timestamp.Goals as goal

pub returns-in_err-version : goal.returns-in_err-version
returns-in_err-version c = rw c.from_residual.ensures (λ t h. c.in_err-version.ensures t.version t.expires h.head)

pub returns-in_err-snapshot : goal.returns-in_err-snapshot
returns-in_err-snapshot c = rw c.from_residual-in_err-snapshot.ensures (λ t h. c.in_err-snapshot.ensures t.snapshot h.meta)
