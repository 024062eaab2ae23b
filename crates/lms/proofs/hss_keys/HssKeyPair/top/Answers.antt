use Rattle.lms.proofs.hss_keys.HssKeyPair.top.Goals as goal

pub returns : goal.returns
returns c = rw (← c.self.view_is) c.self.invariant
