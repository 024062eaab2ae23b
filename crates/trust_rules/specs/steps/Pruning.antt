-- What a prune takes away, step by step.
use Rattle.std.specs.Prelude.{◌≡◌, ℕ, not, List, [], ◌∷◌, map, filter, Option, Some, None, bytes_eq}
use Rattle.document_parts.specs.Documents.{Listing, Snapshot}
use Rattle.metadata.specs.File.{Bytes, File}
use Rattle.delegations.specs.Rows.{Place, Rows}
use Rattle.delegations.specs.Verdicts.{AreListed, Table}
use Rattle.trust_rules.specs.Offers.{is_listed, is_wanted, kept_rows}
use Rattle.trust_rules.specs.Effects.{Gone, without}
use Rattle.trust_rules.specs.Held.{Held}

abbrev pub listed_rows : Option (File Snapshot) → Rows → Rows
listed_rows snapshot rows = filter (λ row. is_listed snapshot row.0) rows

abbrev pub unlisted_places : Option (File Snapshot) → Rows → List Place
unlisted_places snapshot rows = map (λ row. row.0) (filter (λ row. not (is_listed snapshot row.0)) rows)

abbrev pub unwanted_digests : {A : Type 0} → Rows → List (Bytes × A) → List Bytes
unwanted_digests rows blobs = map (λ b. b.0) (filter (λ b. not (is_wanted rows b.0)) blobs)

abbrev pub gone_of : Held → Gone
gone_of H = record { rows = unlisted_places H.trusted.snapshot H.trusted.shelf; blobs = unwanted_digests (kept_rows H.trusted) H.blobs }

abbrev pub digests_of : List Listing → List Bytes
digests_of listings = map (λ l. l.digest) listings

-- blobs without those that the rows list, row by row
abbrev pub without_listed : List (Bytes × ℕ) → Rows → List (Bytes × ℕ)
without_listed blobs [] = blobs
without_listed blobs (row ∷ rows) = without_listed (without bytes_eq blobs (digests_of row.1.body.targets)) rows

-- a table that names rows at listed versions alone: without a snapshot none
abbrev pub AreAtListed : Option (File Snapshot) → Table → Type 0
AreAtListed None table = table ≡ []
AreAtListed (Some snap) table = AreListed snap.body.meta table
