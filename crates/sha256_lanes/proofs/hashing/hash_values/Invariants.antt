use Rattle.sha256_lanes.specs.steps.Lanes.{AreHashes}
use Rattle.sha256_lanes.proofs.hashing.hash_values.Given as goal

abbrev pub invariant-turn : goal.invariant-turn
invariant-turn l = AreHashes l.first l.second l.third l.fourth l.state l.i
