-- What the code's states, changes and denials stand for.
use Rattle.std.specs.Prelude.{ℕ, List, [], ◌∷◌, ◌++◌, map, Option, Some, None, option_map}
use Rattle.document_parts.specs.Documents as documents
use Rattle.metadata.specs.File as spec
use Rattle.metadata.specs.FileViews.{root_file, timestamp_file, snapshot_file}
use Rattle.document_parts.specs.Views.{profile_view}
use Rattle.metadata.specs.declared.file.File.{File}
use Rattle.document_parts.specs.declared.documents.Root.{Root}
use Rattle.delegations.specs.Views.{row_views}
use Rattle.path_patterns.specs.declared.Digest.{Digest}
use Rattle.trust_rules.specs.Effects as changes
use Rattle.trust_rules.specs.Held as holding
use Rattle.trust_rules.specs.State as plain
use Rattle.state_parts.specs.declared.effects.Blob.{Blob}
use Rattle.state_parts.specs.declared.effects.Changes.{Changes}
use Rattle.state_parts.specs.declared.effects.Effects.{Effects}
use Rattle.state_parts.specs.declared.effects.Gone.{Gone}
use Rattle.state_parts.specs.declared.parts.BlobLength.{BlobLength}
use Rattle.state_parts.specs.declared.parts.Parts.{Parts}
use Rattle.state_parts.specs.declared.parts.Trusted.{Trusted}

abbrev pub blob_views : List Blob → List (spec.Bytes × spec.Bytes)
blob_views blobs = map (λ b. (b.digest.0, b.bytes.items)) blobs

-- changes of what is trusted, as changes without blobs
abbrev pub changes_view : Changes → changes.Effects
changes_view c = record {
  roots = map root_file c.roots.items;
  emptied = c.emptied;
  timestamp = option_map timestamp_file c.timestamp;
  snapshot = option_map snapshot_file c.snapshot;
  rows = row_views c.rows.items;
  blobs = [];
  gone = changes.nothing_gone;
}

abbrev pub digest_views : List Digest → List spec.Bytes
digest_views digests = map (λ d. d.0) digests

abbrev pub gone_view : Gone → changes.Gone
gone_view g = record { rows = g.rows.items; blobs = digest_views g.blobs.items }

abbrev pub made_view : Changes → List Blob → Gone → changes.Effects
made_view c blobs gone = record (changes_view c) { blobs = blob_views blobs; gone = gone_view gone }

abbrev pub effects_view : Effects → changes.Effects
effects_view e = made_view e.changes e.blobs.items e.gone

abbrev pub last_kept : Option (File Root) → List (documents.Profile × spec.Bytes)
last_kept None = []
last_kept (Some file) = plain.kept_root (root_file file) ∷ []

abbrev pub trusted_view : Trusted → plain.Trusted
trusted_view t = record {
  roots = map (λ b. (profile_view b.0, b.1.items)) t.earlier.items ++ last_kept t.root;
  root = option_map root_file t.root;
  timestamp = option_map timestamp_file t.timestamp;
  snapshot = option_map snapshot_file t.snapshot;
  shelf = row_views t.shelf.items;
}

abbrev pub parts_view : Parts → plain.State
parts_view p = record { trusted = trusted_view p.trusted; blobs = blob_views p.blobs.items }

abbrev pub length_views : List BlobLength → List (spec.Bytes × ℕ)
length_views blobs = map (λ b. (b.digest.0, b.length)) blobs

abbrev pub held_view : Trusted → List BlobLength → holding.Held
held_view trusted blobs = record { trusted = trusted_view trusted; blobs = length_views blobs }
