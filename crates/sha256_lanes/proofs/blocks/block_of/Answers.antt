use Rattle.std.proofs.Common.{ℕ, ◌≡◌, ◌+◌, ◌-◌, ◌*◌, drop, take, arith, ap₂, ◌∙◌}
use Rattle.sha256_lanes.proofs.Padding.{own_block}
use Rattle.sha256_lanes.proofs.blocks.block_of.Goals as goal

pub returns : goal.returns
returns c below =
    let m = c.args.message.now in
    let i = c.args.i in
    let start : 64 * i ≡ i * 64 = omega arith in
    let width : 64 * i + 64 - 64 * i ≡ 64 = omega arith in
    c.copy_from_slice.ensures.after ∙ ap₂ (λ (k : ℕ) (s : ℕ). take k (drop s m)) width start ∙ own_block m i c.if-i-message.false
