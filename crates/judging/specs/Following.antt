-- What a document is judged by beside the one that is held, but for signatures and moments: what a signer can know before signing.
use Rattle.std.specs.Prelude.{◌≡◌, ◌+◌, Some}
use Rattle.document_parts.specs.Documents.{Root}
use Rattle.document_parts.specs.declared.documents.Kind.{Kind}
use Rattle.document_parts.specs.declared.documents.Kind.TheVariants as kinds
use Rattle.metadata.specs.File.{Bytes, File, Form, root_form, timestamp_form, snapshot_form}
use Rattle.metadata.specs.Shaped.{shaped}
use Rattle.denials.specs.Numbers as no
use Rattle.denials.specs.Orders.{Order, check, give, ◌>>=◌, ◌>>◌}
use Rattle.trust_rules.specs.State.{KeepsProfile}
use Rattle.trust_rules.specs.Offers.{after_timestamp, after_snapshot}

-- a root is the next version, and keeps to the profile or goes to the second one
abbrev pub root_follows : File Root → File Root → Order (Unit {0})
root_follows old new = do
  check no.root_version (new.body.version ≡ old.body.version + 1)
  check no.profile_lowered (KeepsProfile old.body new.body)

-- both files are documents of the form, and the one may follow the other
abbrev pub follows_by : {A : Type 0} → Form A → (File A → File A → Order (Unit {0})) → Bytes → Bytes → Order (Unit {0})
follows_by form judge held b = do
  old ← shaped form held
  new ← shaped form b
  judge old new

-- targets metadata may follow any: what the snapshot says of them is what counts
abbrev pub follows : Kind → Bytes → Bytes → Order (Unit {0})
follows kinds.Root held b = follows_by root_form root_follows held b
follows kinds.Timestamp held b = follows_by timestamp_form (λ old new. after_timestamp (Some old) new) held b
follows kinds.Snapshot held b = follows_by snapshot_form (λ old new. after_snapshot (Some old) new) held b
follows kinds.Targets held b = give tt
follows kinds.Layout held b = give tt
follows kinds.Link held b = give tt
