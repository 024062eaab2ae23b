use Rattle.std.proofs.Common.{◌≡◌, ◌≤◌, ◌<◌, ◌-◌, ◌+◌, ◌/◌, ◌^◌, ◌++◌, bit_xor, ℕ, List, flat_map, ap, ◌∙◌, arith}
use Rattle.std.specs.List.{range_with_len}
use Rattle.lms.specs.Parameters.{height}
use Rattle.lms.specs.Chains.{below}
use Rattle.lms.specs.Keys.{node_hash, path_hash}
use Rattle.lms.proofs.Bytes.{leaves_small}
use Rattle.lms.proofs.Counts.{height_small}
use Rattle.lms.proofs.Nodes.{flat_more, flat_done, flat_is_concat, sibling_within}
use Rattle.lms.proofs.signing.put_path.Goals as goal

pub overflow_add-sibling : goal.overflow_add-sibling
overflow_add-sibling c = omega (arith, leaves_small c.args.lms, c.leaves-leaves.ensures, c.requires.leaf)

pub overflow_shr-sibling : goal.overflow_shr-sibling
overflow_shr-sibling c = omega (arith, height_small c.args.lms, c.height-levels.ensures)

pub node_hash-hash-requires : goal.node_hash-hash-requires
node_hash-hash-requires c =
    let small : c.leaves-leaves.result ≤ 2 ^ 25 = omega (arith, leaves_small c.args.lms, c.leaves-leaves.ensures) in
    let leaf : c.args.q < c.leaves-leaves.result = omega (arith, c.leaves-leaves.ensures, c.requires.leaf) in
    let level : c.loop-i.i < height c.args.lms = omega (arith, c.height-levels.ensures) in
    let within = sibling_within (height c.args.lms) c.loop-i.i c.args.q c.leaves-leaves.result c.leaves-leaves.ensures small leaf level in
    record {
      first = within.first;
      last = within.last;
      known = rw c.leaves-leaves.ensures c.requires.known;
    }

pub loop-i-init : goal.loop-i-init
loop-i-init c =
    let seed = c.args.seed.now in
    let f = path_hash c.args.lms c.args.ots seed.identifier seed.secret c.args.q in
    let n : c.height-levels.result - 0 ≡ c.height-levels.result = omega arith in
    record {
      items = ap (λ (k : ℕ). c.args.out.now.items ++ flat_map f (range_with_len 0 k)) n;
      len = omega arith;
      capacity = omega arith;
    }

pub loop-i-preserved : goal.loop-i-preserved
loop-i-preserved c =
    let seed = c.args.seed.now in
    let f = path_hash c.args.lms c.args.ots seed.identifier seed.secret c.args.q in
    let end : c.node_hash-hash.result ≡ f c.loop-i.i
    = c.node_hash-hash.ensures
    ∙ ap (λ (n : ℕ). node_hash c.args.ots seed.identifier seed.secret n c.loop-i.i (bit_xor ((n + c.args.q) / 2 ^ c.loop-i.i) 1)) c.leaves-leaves.ensures in
    record {
      items = ap (λ (xs : List ℕ). xs ++ flat_map f (range_with_len (c.loop-i.i + 1) (c.height-levels.result - (c.loop-i.i + 1)))) c.put.ensures.items
          ∙ flat_more f c.loop-i.i c.height-levels.result c.loop-i.out.items c.node_hash-hash.result _ c.loop-i-test.true end c.loop-i.invariant.items;
      len = omega (arith, c.put.ensures.len, c.loop-i.invariant.len);
      capacity = omega (arith, c.put.ensures.capacity, c.loop-i.invariant.capacity);
    }

pub returns-clause-items : goal.returns-clause-items
returns-clause-items c =
    let seed = c.args.seed.now in
    let f = path_hash c.args.lms c.args.ots seed.identifier seed.secret c.args.q in
    flat_done f c.loop-i.i c.height-levels.result c.loop-i.out.items _ c.loop-i-test.false c.loop-i.invariant.items
    ∙ ap (λ (n : ℕ). c.args.out.now.items ++ flat_map f (below n)) c.height-levels.ensures
    ∙ ap (λ (xs : List ℕ). c.args.out.now.items ++ xs) (flat_is_concat f (below (height c.args.lms)))
