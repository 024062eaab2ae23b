use Rattle.lms.proofs.key_pairs.KeyPair.public.Goals as goal

pub public_over-requires : goal.public_over-requires
public_over-requires c = rw c.deref.ensures.value c.self.invariant
