use Rattle.std.proofs.Common.{take, ◌++◌, ap, arith, ◌∙◌}
use Rattle.sha256_lanes.proofs.Padding.{ends_with}
use Rattle.sha256_lanes.proofs.blocks.counted.Goals as goal

pub returns : goal.returns
returns c =
    ends_with c.args.block c.copy_from_slice.new.self (omega arith)
    ∙ ap (λ bits. take 56 c.args.block ++ bits) (c.copy_from_slice.ensures.after ∙ c.to_be_bytes.ensures)
