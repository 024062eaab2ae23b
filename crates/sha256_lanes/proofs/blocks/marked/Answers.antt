use Rattle.std.proofs.Common.{List, ℕ, length, ◌++◌, drop, replicate, ap, refl}
use Rattle.sha256_lanes.proofs.Padding.{marked_is}
use Rattle.sha256_lanes.proofs.blocks.marked.Goals as goal

pub returns : goal.returns
returns c =
    let n = length c.args.rest.now in
    marked_is c.args.rest.now _ n n refl c.requires refl (ap (λ (ys : List ℕ). ys ++ drop n (replicate 64 0)) c.copy_from_slice.ensures.after)
