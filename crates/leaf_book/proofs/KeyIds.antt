-- The id of a key has 64 hex digits of lower case.
use Rattle.std.proofs.Common.{ℕ, List, refl}
use Rattle.sha2.specs.Sha256.{sha256}
use Rattle.sha2.proofs.Facts256.{length-sha256}
use Rattle.hex.specs.Hex.{encode_lower}
use Rattle.lms.specs.declared.Params.{Params}
use Rattle.lms.specs.declared.Seed.{Seed}
use Rattle.lms.specs.Keys.{public_of}
use Rattle.keys_roles.specs.Keys.{key_bytes}
use Rattle.keys_roles.specs.Plain.{lms}
use Rattle.leaf_plans.specs.Book.{IsKeyId, key_of}
use Rattle.sql_tables.proofs.Digests.{bytes_of_digest}

digest_id : (m : List ℕ) → IsKeyId (encode_lower (sha256 m))
digest_id m = (sha256 m, length-sha256 m, bytes_of_digest m, refl)

pub key_of_id : (seed : Seed) (params : Params) → IsKeyId (key_of seed params)
key_of_id seed params = digest_id (key_bytes (lms (public_of seed params)))
