use Rattle.std.proofs.Common.{rules}
use Rattle.std.proofs.lemmas.List.Sorted.{IsPartitionPoint-from_clause}
use Rattle.delegations.specs.Delegation.{before}
use Rattle.delegations.proofs.ByHalves.{parted}
use Rattle.delegations.proofs.KeyOrder.{sorts_bytes}
use Rattle.state_parts.proofs.finding.count_before.Goals as goal

pub returns : goal.returns
returns c =
    IsPartitionPoint-from_clause (λ b. before b.digest.0 c.args.digest.now.0) _ _ c.partition_point.ensures.partitioned
    (parted (λ b. b.digest.0) (λ b. b.bytes.items) before sorts_bytes.order.through c.args.blobs.now c.args.digest.now.0 c.requires) (λ a r q k. search rules)
