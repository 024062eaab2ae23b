use Rattle.std.proofs.Common.{List, ℕ, ◌*◌, ◌/◌, ◌^◌, ◌%◌, ◌++◌, length, take, arith, ap, ◌∙◌}
use Rattle.std.specs.Int.{w64, to_be_bytes}
use Rattle.std.proofs.lemmas.List.{take_rest}
use Rattle.sha256_lanes.proofs.Padding.{full_block, next_block, short_block}
use Rattle.sha256_lanes.proofs.blocks.last_block.Goals as goal

pub returns-then-i-whole : goal.returns-then-i-whole
returns-then-i-whole c below = c.counted.ensures ∙ next_block c.args.message.now c.args.i (omega arith) below

pub returns-then-rest-gt55 : goal.returns-then-rest-gt55
returns-then-rest-gt55 c below =
    let m = c.args.message.now in
    c.marked-block.ensures ∙ full_block m _ c.args.i (take_rest m (64 * (length m / 64))) (omega arith) (omega arith)

pub returns : goal.returns
returns c below =
    let m = c.args.message.now in
    c.counted-2.ensures ∙ ap (λ (b : List ℕ). take 56 b ++ to_be_bytes w64 (length m * 8 % 2 ^ 64)) c.marked-block.ensures
    ∙ short_block m _ c.args.i (take_rest m (64 * (length m / 64))) (omega arith) (omega arith)
