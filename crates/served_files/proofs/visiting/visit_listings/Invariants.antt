use Rattle.std.proofs.Common.{map, take}
use Rattle.document_parts.specs.Views.{listing_view}
use Rattle.served_files.specs.steps.Visits.{AreInOrder, Became, IsListedIn}
use Rattle.served_files.proofs.visiting.visit_listings.Given as goal

abbrev pub invariant-loop-listing : goal.invariant-loop-listing
invariant-loop-listing g l = Became g.V.FileVisitor.Stands l.initial.visitor l.visitor (λ files more. AreInOrder files (IsListedIn (map listing_view (take l.listing-index l.listings))) more)
