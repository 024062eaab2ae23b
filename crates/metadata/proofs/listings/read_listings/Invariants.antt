use Rattle.std.proofs.Common.{length}
use Rattle.canonical_json.specs.Json.{EachMember}
use Rattle.canonical_json.specs.Spelling.{IsSound}
use Rattle.canonical_json.specs.View.{members_view}
use Rattle.document_parts.specs.Bodies.{IsListing}
use Rattle.metadata.specs.steps.Spelled.{spelled_listings}
use Rattle.document_parts.proofs.Growing.{MembersGrow, MembersLeft}
use Rattle.metadata.proofs.listings.read_listings.Given as goal

abbrev pub invariant-members : goal.invariant-members
invariant-members l = record {
  grow : MembersGrow IsListing (members_view l.fn.members) (members_view l.rest) (spelled_listings l.listings.items);
  left : MembersLeft IsListing (members_view l.fn.members) (members_view l.rest);
  proper : EachMember IsSound (members_view l.rest);
}

abbrev pub decreases-members : goal.decreases-members
decreases-members l = length l.rest
