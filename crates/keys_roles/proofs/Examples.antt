-- Worked examples, computed.
use Rattle.std.specs.Prelude.{◌≡◌, length, replicate, refl}
use Rattle.hex.proofs.OnLiterals.{hex_on_literals}
use Rattle.keys_roles.specs.Plain.{lms, hss}
use Rattle.keys_roles.specs.Keys.{key_bytes}

-- 62 bytes around 112 digits
example_key : length (key_bytes (lms (replicate 56 0xab))) ≡ 174
unfolding hex_on_literals
example_key = refl

-- and around 120
example_hss_key : length (key_bytes (hss (replicate 60 0xab))) ≡ 182
unfolding hex_on_literals
example_hss_key = refl
