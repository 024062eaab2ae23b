-- The blocks of a message and its padding. That of a short message fills one block.
use Rattle.std.proofs.Common.{Bool, true, false, nat_lt, min, if◌then◌else◌, rules, tests, ◌≡◌, ℕ, suc, ◌+◌, ◌-◌, ◌*◌, ◌/◌, ◌%◌, ◌^◌, ◌<◌, ◌≤◌, List, [], ◌∷◌, ◌++◌, length, take, drop, replicate, slice_set, refl, sym, ap, ◌∙◌, arith, length-append, length-drop}
use Rattle.std.proofs.lemmas.List.{append_assoc, append-nil, drop-replicate, take-replicate, drop_all, length-replicate, take_all, take-append-le, drop-append-le}
use Rattle.std.proofs.Math.Seq.{drop-append-add, set-append_seam, take-append-add}
use Rattle.std.specs.Int.{w64, to_be_bytes}
use Rattle.sha2.specs.Sha256.{compress, digest_bytes, hash_after, initial_hash_256, padded_message, padding, sha256}
use Rattle.sha256_lanes.specs.steps.Lanes.{block_at, blocks_of, hash_at}
use Rattle.sha2.proofs.Absorbing256.{hash_after_next}
use borrow.Rule.Slice.PartMut.{put_mid, post_of}

-- a message of n bytes, the byte 0x80 behind it, and zeros up to byte 56
front : (m : List ℕ) (n : ℕ) → length m ≡ n → n ≤ 55 → take 56 (m ++ 0x80 ∷ replicate (63 - n) 0) ≡ m ++ 0x80 ∷ replicate (55 - n) 0
front m n len short =
    let all : 56 ≡ length m + suc (55 - n) = omega arith in
    ap (λ (k : ℕ). take k (m ++ 0x80 ∷ replicate (63 - n) 0)) all
    ∙ take-append-add m (0x80 ∷ replicate (63 - n) 0) (suc (55 - n))
    ∙ ap (λ (zs : List ℕ). m ++ 0x80 ∷ zs) (take-replicate (55 - n) (63 - n) 0 (omega arith))

-- a message of less than a block, the byte 0x80 behind it, and zeros
pub marked_is : (m xs : List ℕ) (n k : ℕ) → length m ≡ n → n < 64 → k ≡ n → xs ≡ m ++ drop n (replicate 64 0) → slice_set xs k 0x80 ≡ m ++ 0x80 ∷ replicate (63 - n) 0
marked_is m xs n k len short at ex =
    let zeros : drop n (replicate {A = ℕ} 64 0) ≡ 0 ∷ replicate (63 - n) 0
    = drop-replicate n 64 0 ∙ ap (λ (i : ℕ). replicate i 0) (let e : 64 - n ≡ suc (63 - n) = omega arith in e) in
    ap (λ (ys : List ℕ). slice_set ys k 0x80) (ex ∙ ap (λ (zs : List ℕ). m ++ zs) zeros)
    ∙ ap (λ (i : ℕ). slice_set (m ++ 0 ∷ replicate (63 - n) 0) i 0x80) (at ∙ sym len)
    ∙ set-append_seam m 0 (replicate (63 - n) 0) 0x80

-- the last 8 bytes of a block
pub ends_with : (block bits : List ℕ) → length block ≡ 64 → put_mid 56 8 block bits ≡ take 56 block ++ bits
ends_with block bits whole =
    let none : post_of 56 8 block ≡ [] = drop_all 8 (drop 56 block) (omega (arith, length-drop 56 block)) in
    rw (none, append-nil) refl

-- the bytes behind the last whole block, 0x80, zeros and the length of the message, where they fit into one block
ended : (r bits : List ℕ) → length r ≤ 55 → take 56 (r ++ 0x80 ∷ replicate (63 - length r) 0) ++ bits ≡ r ++ (0x80 ∷ (replicate (55 - length r) 0 ++ bits))
ended r bits short = ap (λ (ys : List ℕ). ys ++ bits) (front r (length r) refl short) ∙ append_assoc r (0x80 ∷ replicate (55 - length r) 0) bits

pub padded : (m xs bits : List ℕ) (n k : ℕ) → length m ≡ n → n ≤ 55 → k ≡ n → xs ≡ m ++ drop n (replicate 64 0) → bits ≡ to_be_bytes w64 (8 * n)
    → put_mid 56 8 (slice_set xs k 0x80) bits ≡ padded_message m
padded m xs bits n k len short at ex eb =
    let block : List ℕ = m ++ 0x80 ∷ replicate (63 - n) 0 in
    let whole : length block ≡ 64 = omega (arith, length-append m (0x80 ∷ replicate (63 - n) 0), length-replicate {A = ℕ} (63 - n) 0) in
    let count : (119 - length m % 64) % 64 ≡ 55 - n = omega arith in
    let size : length m * 8 % 2 ^ 64 ≡ 8 * n = omega arith in
    ap (λ (ys : List ℕ). put_mid 56 8 ys bits) (marked_is m xs n k len (omega arith) at ex)
    ∙ ends_with block bits whole
    ∙ rw (front m n len short, eb, count, size) (append_assoc m (0x80 ∷ replicate (55 - n) 0) (to_be_bytes w64 (8 * n)))

-- how long a message and its padding are
padded_size : (m : List ℕ) → length (padded_message m) ≡ length m + (119 - length m % 64) % 64 + 9
padded_size m =
    let n = length m in
    let zeros : List ℕ = replicate ((119 - n % 64) % 64) 0 in
    let bits = to_be_bytes w64 (n * 8 % 2 ^ 64) in
    let eight : length bits ≡ 8 = refl in
    omega (arith, length-append m (0x80 ∷ zeros ++ bits), length-append zeros bits, length-replicate {A = ℕ} ((119 - n % 64) % 64) 0)

pub padded_count : (m : List ℕ) (n k : ℕ) → length m ≡ n → k ≡ (n + 8) / 64 + 1 → k ≡ blocks_of m
padded_count m n k len e = omega (arith, padded_size m)

-- a block of the message alone
pub own_block : (m : List ℕ) (i : ℕ) → i < length m / 64 → take 64 (drop (i * 64) m) ≡ block_at m i
own_block m i below =
    let fits : 64 ≤ length (drop (i * 64) m) = omega (arith, length-drop (i * 64) m) in
    sym (ap (take 64) (drop-append-le (i * 64) m (padding (length m)) (omega arith)) ∙ take-append-le 64 (drop (i * 64) m) (padding (length m)) fits)

module _ (m : List ℕ) where
  abbrev pub rest : List ℕ
  rest = drop (64 * (length m / 64)) m

  abbrev bits : List ℕ
  bits = to_be_bytes w64 (length m * 8 % 2 ^ 64)

  abbrev zeros : ℕ
  zeros = (119 - length m % 64) % 64

  rest_length : length rest ≡ length m % 64
  rest_length = omega (arith, length-drop (64 * (length m / 64)) m)

  -- where the padding begins
  seam : (i : ℕ) → i ≡ length m / 64 → drop (i * 64) (padded_message m) ≡ rest ++ padding (length m)
  seam i at =
      let start : i * 64 ≡ 64 * (length m / 64) = omega arith in
      ap (λ (k : ℕ). drop k (padded_message m)) start ∙ drop-append-le (64 * (length m / 64)) m (padding (length m)) (omega arith)

  -- in that block there is no room for the length
  pub full_block : (r : List ℕ) (i : ℕ) → r ≡ rest → i ≡ length m / 64 → 55 < length r → r ++ 0x80 ∷ replicate (63 - length r) 0 ≡ block_at m i
  full_block r i er at long =
      let n = length r in
      let len = rest_length in
      let same = ap length er in
      let room : 63 - n ≤ zeros = omega arith in
      let all : 64 ≡ n + suc (63 - n) = omega arith in
      let filled : take (63 - n) (replicate zeros 0 ++ bits) ≡ replicate (63 - n) 0
      = take-append-le (63 - n) (replicate zeros 0) bits (omega (arith, length-replicate {A = ℕ} zeros 0)) ∙ take-replicate (63 - n) zeros 0 room in
      sym (ap (take 64) (seam i at ∙ ap (λ (ys : List ℕ). ys ++ padding (length m)) (sym er)) ∙ ap (λ (k : ℕ). take k (r ++ padding (length m))) all
      ∙ take-append-add r (padding (length m)) (suc (63 - n)) ∙ ap (λ (ys : List ℕ). r ++ (0x80 ∷ ys)) filled)

  -- and there it is
  pub short_block : (r : List ℕ) (i : ℕ) → r ≡ rest → i ≡ length m / 64 → length r ≤ 55 → take 56 (r ++ 0x80 ∷ replicate (63 - length r) 0) ++ bits ≡ block_at m i
  short_block r i er at short =
      let n = length r in
      let len = rest_length in
      let same = ap length er in
      let count : 55 - n ≡ zeros = omega arith in
      let eight : length bits ≡ 8 = refl in
      let whole : length (r ++ padding (length m)) ≤ 64
      = omega (arith, length-append r (padding (length m)), length-append (replicate zeros 0) bits, length-replicate {A = ℕ} zeros 0) in
      let here : drop (i * 64) (padded_message m) ≡ r ++ padding (length m) = seam i at ∙ ap (λ (ys : List ℕ). ys ++ padding (length m)) (sym er) in
      ended r bits short ∙ ap (λ (k : ℕ). r ++ (0x80 ∷ (replicate k 0 ++ bits))) count ∙ sym (ap (take 64) here ∙ take_all 64 (r ++ padding (length m)) whole)

  -- the block behind, where the length did not fit
  pub next_block : (i : ℕ) → length m / 64 < i → i < blocks_of m → take 56 (replicate 64 0) ++ bits ≡ block_at m i
  next_block i above below =
      let n = length rest in
      let len = rest_length in
      let size = padded_size m in
      let at : i ≡ length m / 64 + 1 = omega arith in
      let start : i * 64 ≡ length m + suc (63 - n) = omega arith in
      let room : 63 - n ≤ zeros = omega arith in
      let left : zeros - (63 - n) ≡ 56 = omega arith in
      let behind : drop (63 - n) (replicate zeros 0 ++ bits) ≡ replicate 56 0 ++ bits
      = drop-append-le (63 - n) (replicate zeros 0) bits (omega (arith, length-replicate {A = ℕ} zeros 0))
      ∙ ap (λ (ys : List ℕ). ys ++ bits) (drop-replicate (63 - n) zeros 0 ∙ ap (λ (k : ℕ). replicate k 0) left) in
      let dropped : drop (i * 64) (padded_message m) ≡ replicate 56 0 ++ bits
      = ap (λ (k : ℕ). drop k (padded_message m)) start ∙ drop-append-add m (padding (length m)) (suc (63 - n)) ∙ behind in
      sym (ap (take 64) dropped)

-- one block holds the message and its padding
pub padded_length : (m : List ℕ) → length m ≤ 55 → length (padded_message m) ≡ 64
padded_length m short = omega (arith, padded_size m)

-- and its hash value is the message's
pub one_block : (m h : List ℕ) → length m ≤ 55 → h ≡ compress initial_hash_256 (padded_message m) → digest_bytes h 8 ≡ sha256 m
unfolding sha256 hash_after
one_block m h short e =
    let p = padded_message m in
    let len = padded_length m short in
    let one : length p / 64 ≡ 1 = omega arith in
    ap (λ (x : List ℕ). digest_bytes x 8) (e ∙ ap (compress initial_hash_256) (sym (take_all 64 p (omega arith))))
    ∙ ap (λ (k : ℕ). digest_bytes (hash_after initial_hash_256 p k) 8) (sym one)

-- the hash value of all blocks of a message is its digest's
pub all_blocks : (m h : List ℕ) (n : ℕ) → blocks_of m ≤ n → h ≡ hash_at m n → digest_bytes h 8 ≡ sha256 m
unfolding sha256
all_blocks m h n done e =
    let all : min n (blocks_of m) ≡ blocks_of m = omega arith in
    ap (λ (x : List ℕ). digest_bytes x 8) (e ∙ ap (hash_after initial_hash_256 (padded_message m)) all)

-- no block has been taken
pub no_blocks : (m h : List ℕ) → h ≡ initial_hash_256 → h ≡ hash_at m 0
unfolding hash_after
no_blocks m h e =
    let none : min 0 (blocks_of m) ≡ 0 = omega arith in
    e ∙ ap (hash_after initial_hash_256 (padded_message m)) (sym none)

-- one more block, where there is one
pub one_more : (m block later state h : List ℕ) (i : ℕ) (have : Bool) → h ≡ (if have then later else state) → have ≡ nat_lt i (blocks_of m) → later ≡ compress state block
    → (i < blocks_of m → block ≡ block_at m i) → state ≡ hash_at m i → h ≡ hash_at m (i + 1)
one_more m block later state h i true eh ei el eb es =
    let below : i < blocks_of m = search (rules, tests) in
    let here : min i (blocks_of m) ≡ i = omega arith in
    let next : min (i + 1) (blocks_of m) ≡ i + 1 = omega arith in
    let p = padded_message m in
    eh ∙ el ∙ rw (es, eb below, here, next) (sym (hash_after_next initial_hash_256 p i))
one_more m block later state h i false eh ei el eb es =
    let above : blocks_of m ≤ i = search (rules, tests) in
    let same : min (i + 1) (blocks_of m) ≡ min i (blocks_of m) = omega arith in
    eh ∙ es ∙ ap (hash_after initial_hash_256 (padded_message m)) (sym same)
