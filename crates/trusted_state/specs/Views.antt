-- What drafts, offers and documents stand for.
use Rattle.std.specs.Borrow.{Bor}
use Rattle.std.specs.Prelude.{ℕ, List, map}
use Rattle.metadata.specs.File as spec
use Rattle.trust_rules.specs.Offers as commands
use Rattle.trust_rules.specs.Effects as changes
use Rattle.trust_rules.specs.State as plain
use Rattle.trusted_state.specs.declared.draft.Draft.{Draft}
use Rattle.trusted_state.specs.declared.outcome.Offer.{Offer}
use Rattle.trusted_state.specs.declared.outcome.Offer.TheVariants as offers
use Rattle.state_parts.specs.Views.{changes_view, trusted_view}

abbrev pub draft_view : Draft → plain.Trusted
draft_view d = changes.brought (trusted_view d.base.now) (changes_view d.changes)

abbrev pub offer_view : Offer → commands.Offer
offer_view offers.Root = commands.RootOffer
offer_view offers.Timestamp = commands.TimestampOffer
offer_view offers.Snapshot = commands.SnapshotOffer
offer_view (offers.Targets role) = commands.TargetsOffer role

abbrev pub documents_view : List (Offer × Bor (List ℕ)) → List (commands.Offer × spec.Bytes)
documents_view documents = map (λ d. (offer_view d.0, d.1.now)) documents
