use Rattle.std.proofs.Common.{◌≡◌, ◌++◌, ◌*◌, ◌%◌, ◌^◌, ℕ, List, length, ap, ◌∙◌, arith}
use Rattle.lms.specs.Parameters.{checksum_shift}
use Rattle.lms.specs.Text.{u16}
use Rattle.lms.specs.Chains.{checksum, checksum_sum}
use Rattle.lms.proofs.Counts.{checksum_fits}
use Rattle.lms.proofs.Placed.{placed_first, filled}
use Rattle.lms.proofs.chains.with_checksum.Goals as goal

pub returns : goal.returns
returns c =
    let n = c.told-hash in
    let one = placed_first (length c.args.hash.now) 32 c.place.new.target c.args.hash.now (omega arith) c.place.ensures.front in
    let two = filled 32 (length c.to_be_bytes.result) c.place.new.target c.place-2.new.target c.to_be_bytes.result (omega arith) c.place-2.ensures.front in
    let small = checksum_fits c.args.ots c.checksum_sum.result c.checksum_sum.ensures.bound in
    let whole : c.checksum_sum.result * 2 ^ checksum_shift c.args.ots % 2 ^ 16 ≡ c.checksum_sum.result * 2 ^ checksum_shift c.args.ots = omega (arith, small) in
    let shifted : c.checksum_sum.result * 2 ^ c.checksum_shift.result % 2 ^ 16 ≡ checksum_sum c.args.ots c.args.hash.now * 2 ^ checksum_shift c.args.ots
    = ap (λ (k : ℕ). c.checksum_sum.result * 2 ^ k % 2 ^ 16) c.checksum_shift.ensures ∙ whole ∙ ap (λ (k : ℕ). k * 2 ^ checksum_shift c.args.ots) c.checksum_sum.ensures.sum in
    let bytes : c.to_be_bytes.result ≡ checksum c.args.ots c.args.hash.now = c.to_be_bytes.ensures ∙ ap u16 shifted in
    two ∙ ap (λ (xs : List ℕ). xs ++ c.to_be_bytes.result) one ∙ ap (λ (xs : List ℕ). c.args.hash.now ++ xs) bytes
