use Rattle.lms.proofs.hss_keys.HssKeyPair.sized.Goals as goal

pub returns : goal.returns
returns c = rw (← c.self.view_is) c.has_size.ensures
