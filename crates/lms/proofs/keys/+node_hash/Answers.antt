use Rattle.std.proofs.Common.{◌<◌, ◌-◌, ℕ, List, ap, ◌∙◌, arith}
use Rattle.lms.specs.Tree.{inner_hash}
use Rattle.lms.proofs.Nodes.{left_within, right_within, above_is}
use Rattle.lms.proofs.keys.+node_hash.Goals as goal

pub node_hash-left-requires : goal.node_hash-left-requires
node_hash-left-requires t c =
    let less : c.args.levels - 1 < t = omega (arith, c.decreases) in
    let in_ = left_within c.args.leaves c.args.node c.args.levels c.if-levels-eq0.false c.requires.first c.requires.last in
    (less, (in_.first, (in_.last, c.requires.known)))

pub node_hash-right-requires : goal.node_hash-right-requires
node_hash-right-requires t c =
    let less : c.args.levels - 1 < t = omega (arith, c.decreases) in
    let in_ = right_within c.args.leaves c.args.node c.args.levels c.if-levels-eq0.false c.requires.first c.requires.last in
    (less, (in_.first, (in_.last, c.requires.known)))

pub returns : goal.returns
returns t c =
    let seed = c.args.seed.now in
    c.inner_hash.ensures.value
    ∙ ap (λ (x : List ℕ). inner_hash seed.identifier c.args.node x c.node_hash-right.result) c.node_hash-left.ensures
    ∙ ap (inner_hash seed.identifier c.args.node _) c.node_hash-right.ensures
    ∙ above_is c.args.ots seed.identifier seed.secret c.args.leaves c.args.levels c.args.node c.if-levels-eq0.false
