-- A state whose blobs' bytes are elsewhere.
use Rattle.std.specs.Prelude.{◌≡◌, ◌↔◌, ℕ, ◌≤◌, List, [], ◌∷◌, length, Option, None, bytes_eq, All, IfNone, unwrap_or}
use Rattle.repository_rows.specs.Contents.{lengths_of}
use Rattle.metadata.specs.File.{Bytes}
use Rattle.delegations.specs.Delegation.{before}
use Rattle.delegations.specs.Rows.{Rises, value_at, with_row}
use Rattle.limits.specs.Limits.{blob_limit, most_held}
use Rattle.trust_rules.specs.State.{Trusted, State, IsTrusted, IsState, blob_at}
use Rattle.trust_rules.specs.Effects.{Effects, brought, without}

-- what is trusted, and the length of each blob by its digest
pub record Held : Type 0 where
  pub trusted : Trusted
  pub blobs : List (Bytes × ℕ)

-- a state without its blobs' bytes
abbrev pub held_of : State → Held
held_of S = record { trusted = S.trusted; blobs = lengths_of S.blobs }

abbrev pub nothing_held : Held
nothing_held = record { trusted = record { roots = []; root = None; timestamp = None; snapshot = None; shelf = [] }; blobs = [] }

abbrev pub length_at : List (Bytes × ℕ) → Bytes → Option ℕ
length_at blobs digest = value_at bytes_eq blobs digest

-- the bytes that a state has under a digest
abbrev pub bytes_at : State → Bytes → Bytes
bytes_at S digest = unwrap_or (blob_at S.blobs digest) []

-- what a state is, but for what the bytes of its blobs are
pub record IsHeld (H : Held) : Type 0 where
  pub trusted : IsTrusted H.trusted
  pub none : IfNone H.trusted.root (H.blobs ≡ [])
  pub short : All (λ b. b.1 ≤ blob_limit) H.blobs
  pub in_order : Rises before H.blobs
  pub few_blobs : length H.blobs ≤ most_held

-- under the digest of each blob stand its bytes and no others, and with these bytes this is the state
pub record StandsFor (H : Held) (Holds : Bytes → Bytes → Type 0) (S : State) : Type 0 where
  pub valid : IsState S
  pub held : held_of S ≡ H
  pub blobs : All (λ b. (bytes : Bytes) → Holds b.0 bytes ↔ bytes ≡ b.1) S.blobs

-- whatever the bytes of the blobs are, of the state it is so
abbrev pub OfEachState : Held → (State → Type 0) → Type 0
OfEachState H P = (S : State) → IsState S → held_of S ≡ H → P S

abbrev pub with_lengths : List (Bytes × ℕ) → List (Bytes × Bytes) → List (Bytes × ℕ)
with_lengths blobs [] = blobs
with_lengths blobs (b ∷ bs) = with_lengths (with_row before blobs b.0 (length b.1)) bs

-- the same with the changes made
abbrev pub held_with : Held → Effects → Held
held_with H E = record { trusted = brought H.trusted E; blobs = with_lengths (without bytes_eq H.blobs E.gone.blobs) E.blobs }
