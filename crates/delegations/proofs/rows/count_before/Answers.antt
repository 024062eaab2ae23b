use Rattle.std.proofs.Common.{rules}
use Rattle.std.proofs.lemmas.List.Sorted.{IsPartitionPoint-from_clause}
use Rattle.metadata.specs.FileViews.{targets_file}
use Rattle.delegations.specs.Rows.{place_before}
use Rattle.delegations.proofs.ByHalves.{parted}
use Rattle.delegations.proofs.KeyOrder.{sorts_places}
use Rattle.delegations.proofs.rows.count_before.Goals as goal

pub returns : goal.returns
returns c =
    IsPartitionPoint-from_clause (λ r. place_before (r.role, r.version) (c.args.role.now, c.args.version)) _ _ c.partition_point.ensures.partitioned
    (parted (λ r. (r.role, r.version)) (λ r. targets_file r.file) place_before sorts_places.order.through c.args.rows.now (c.args.role.now, c.args.version) c.requires) (λ a r q k. search rules)
