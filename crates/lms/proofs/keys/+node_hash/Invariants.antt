use Rattle.lms.proofs.keys.+node_hash.Given as goal

abbrev pub decreases-node_hash : goal.decreases-node_hash
decreases-node_hash l = l.levels
