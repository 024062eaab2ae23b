use Rattle.std.proofs.Common.{refl}
use Rattle.sha256_lanes.proofs.Padding.{padded_count}
use Rattle.sha256_lanes.proofs.blocks.block_count.Goals as goal

pub returns : goal.returns
returns c = padded_count c.args.message.now _ _ refl refl
