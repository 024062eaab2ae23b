use Rattle.std.proofs.Common.{◌≡◌, [], ◌∷◌, map, slice_index_or, ap, ◌∙◌, arith}
use Rattle.sha2.specs.Sha256.{compress, digest_bytes, initial_hash_256, sha256}
use Rattle.sha256_lanes.specs.steps.Lanes.{lane}
use Rattle.sha256_lanes.proofs.LaneLemmas.{four_of}
use Rattle.sha256_lanes.proofs.Padding.{one_block}
use Rattle.sha256_lanes.proofs.digests.Goals as goal

pub returns : goal.returns
returns g c =
    let m = c.args.messages.now in
    let v = c.compress_first.result in
    let first : digest_bytes (lane 0 v) 8 ≡ sha256 (slice_index_or m 0 [])
    = one_block (slice_index_or m 0 []) (lane 0 v) (omega (arith, c.pad.ensures.len))
    (c.compress_first.ensures 0 (omega arith) ∙ ap (compress initial_hash_256) c.pad.ensures.value) in
    let second : digest_bytes (lane 1 v) 8 ≡ sha256 (slice_index_or m 1 [])
    = one_block (slice_index_or m 1 []) (lane 1 v) (omega (arith, c.pad-2.ensures.len))
    (c.compress_first.ensures 1 (omega arith) ∙ ap (compress initial_hash_256) c.pad-2.ensures.value) in
    let third : digest_bytes (lane 2 v) 8 ≡ sha256 (slice_index_or m 2 [])
    = one_block (slice_index_or m 2 []) (lane 2 v) (omega (arith, c.pad-3.ensures.len))
    (c.compress_first.ensures 2 (omega arith) ∙ ap (compress initial_hash_256) c.pad-3.ensures.value) in
    let fourth : digest_bytes (lane 3 v) 8 ≡ sha256 (slice_index_or m 3 [])
    = one_block (slice_index_or m 3 []) (lane 3 v) (omega (arith, c.pad-4.ensures.len))
    (c.compress_first.ensures 3 (omega arith) ∙ ap (compress initial_hash_256) c.pad-4.ensures.value) in
    c.digests_in.ensures ∙ (λ i. first i ∷ second i ∷ third i ∷ fourth i ∷ []) ∙ ap (map sha256) (four_of [] m (omega arith))
