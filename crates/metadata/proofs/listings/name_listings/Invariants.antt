use Rattle.std.proofs.Common.{◌≡◌, map}
use Rattle.std.specs.List.{AllByRecursion}
use Rattle.document_parts.specs.Views.{listing_view}
use Rattle.metadata.specs.steps.Entries.{HasIds}
use Rattle.metadata.specs.steps.Spelled.{spelled_listings}
use Rattle.metadata.proofs.listings.name_listings.Given as goal

abbrev pub invariant-loop-listing : goal.invariant-loop-listing
invariant-loop-listing l = (map listing_view l.listings.items ≡ spelled_listings l.yielded) × AllByRecursion (λ l. HasIds l.layout) (spelled_listings l.yielded)
