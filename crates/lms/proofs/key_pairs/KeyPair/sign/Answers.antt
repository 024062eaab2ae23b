use Rattle.lms.proofs.key_pairs.KeyPair.sign.Goals as goal

pub sign_over-requires : goal.sign_over-requires
sign_over-requires c = rw c.deref.ensures.value c.self.invariant

pub returns-clause-ok : goal.returns-clause-ok
returns-clause-ok c = rw (← c.self.view_is) c.sign_over.ensures.ok

pub returns-clause-verifies : goal.returns-clause-verifies
returns-clause-verifies c = rw (← c.self.view_is) c.sign_over.ensures.verifies

pub returns-clause-fault : goal.returns-clause-fault
returns-clause-fault c = rw (← c.self.view_is) c.sign_over.ensures.fault
