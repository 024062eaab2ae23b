-- A key under which a signature of several levels verifies has 60 bytes.
use Rattle.std.proofs.Common.{◌≡◌, ℕ, zero, suc, ◌+◌, List, length, ap, arith, length-append}
use Rattle.lms.specs.Text.{u32}
use Rattle.lms.specs.Verifies.{Verifies}
use Rattle.lms.specs.Hss.{VerifiesDown, VerifiesHss}

lms_len : (public message signature : List ℕ) → Verifies public message signature → length public ≡ 56
lms_len public message signature v =
    let both = length-append v.identifier v.root in
    omega (arith, ap (length {A = ℕ}) v.key, both, v.identifier_len, v.root_len)

top_len : (n : ℕ) (public message rest : List ℕ) → VerifiesDown n public message rest → length public ≡ 56
top_len zero public message rest v = lms_len public message rest v
top_len (suc n) public message rest d = lms_len public d.1 d.0 d.4

pub hss_len : (public message signature : List ℕ) → VerifiesHss public message signature → length public ≡ 60
hss_len public message signature v =
    let both = length-append (u32 (v.signed_keys + 1)) v.top in
    let top = top_len v.signed_keys v.top message v.rest v.down in
    omega (arith, ap (length {A = ℕ}) v.levels.key, both, top)
