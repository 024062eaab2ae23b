-- Coefficients, the checksum and the chains of LM-OTS (RFC 8554, sections 3.1.3 and 4.3 to 4.6).
use Rattle.std.specs.Prelude.{ℕ, ◌+◌, ◌-◌, ◌*◌, ◌/◌, ◌%◌, ◌^◌, List, [], ◌∷◌, ◌++◌, map, sum, fold, bit_and, slice_index}
use Rattle.std.specs.List.{range_with_len}
use Rattle.sha2.specs.Sha256.{sha256}
use Rattle.lms.specs.declared.OtsType.{OtsType}
use Rattle.lms.specs.Parameters.{width, checksum_shift, chain_end, chain_count}
use Rattle.lms.specs.Text.{u16, u32}

-- the number i of the coefficients of w bits that make up the bytes (section 3.1.3)
abbrev pub coef : List ℕ → ℕ → ℕ → ℕ
coef bytes i w = bit_and (2 ^ w - 1) (slice_index bytes (i * w / 8) / 2 ^ (8 - (w * (i % (8 / w)) + w)))

-- the numbers below n, in order
abbrev pub below : ℕ → List ℕ
below n = range_with_len 0 n

-- how far the coefficients of a hash are from the ends of their chains, all together (section 4.4)
abbrev pub checksum_sum : OtsType → List ℕ → ℕ
checksum_sum ots hash = sum (map (λ i. chain_end ots - coef hash i (width ots)) (below (256 / width ots)))

abbrev pub checksum : OtsType → List ℕ → List ℕ
checksum ots hash = u16 (checksum_sum ots hash * 2 ^ checksum_shift ots)

-- where chain number i is cut for this hash of a message
abbrev pub coefficient : OtsType → List ℕ → ℕ → ℕ
coefficient ots hash i = coef (hash ++ checksum ots hash) i (width ots)

-- how many steps the chains take from there to their ends, all together
abbrev pub chain_steps : OtsType → List ℕ → ℕ
chain_steps ots hash = sum (map (λ i. chain_end ots - coefficient ots hash i) (below (chain_count ots)))

-- I || u32 q || u16 i || u8 j || tmp (section 4.3)
abbrev pub chain_input : List ℕ → ℕ → ℕ → List ℕ → ℕ → List ℕ
chain_input identifier q i tmp j = identifier ++ u32 q ++ u16 i ++ j ∷ tmp

-- one step of chain i of leaf q, and the steps with the numbers from a up to b - 1
abbrev pub chain_step : List ℕ → ℕ → ℕ → List ℕ → ℕ → List ℕ
chain_step identifier q i tmp j = sha256 (chain_input identifier q i tmp j)

abbrev pub chain : List ℕ → ℕ → ℕ → ℕ → ℕ → List ℕ → List ℕ
chain identifier q i a b start = fold (chain_step identifier q i) start (range_with_len a (b - a))

-- Q, the hash of a message (section 4.5)
abbrev pub message_hash : List ℕ → ℕ → List ℕ → List ℕ → List ℕ
message_hash identifier q randomizer message = sha256 (identifier ++ u32 q ++ u16 0x8181 ++ randomizer ++ message)

-- K, the hash of the ends of all chains (section 4.3)
abbrev pub ends_hash : List ℕ → ℕ → List ℕ → List ℕ
ends_hash identifier q ends = sha256 (identifier ++ u32 q ++ u16 0x8080 ++ ends)

-- the ends of the chains that pass through these elements, the first of them number i, for a hash (section 4.6)
abbrev pub ends_from : OtsType → List ℕ → ℕ → List ℕ → ℕ → List (List ℕ) → List ℕ
ends_from ots identifier q hash i [] = []
ends_from ots identifier q hash i (y ∷ ys) =
    chain identifier q i (coefficient ots hash i) (chain_end ots) y ++ ends_from ots identifier q hash (i + 1) ys

-- Kc, the candidate for the leaf's key
abbrev pub candidate : OtsType → List ℕ → ℕ → List ℕ → List (List ℕ) → List ℕ
candidate ots identifier q hash elements = ends_hash identifier q (ends_from ots identifier q hash 0 elements)
