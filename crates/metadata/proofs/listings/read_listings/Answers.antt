use Rattle.std.proofs.Common.{◌∷◌, [], ℕ, List, string_bytes, sym, ap, subst, ◌∙◌}
use Rattle.std.proofs.lemmas.List.{map-append}
use Rattle.canonical_json.specs.View.{view, members_view}
use Rattle.document_parts.specs.Bodies.{IsListing}
use Rattle.document_parts.specs.Documents as plain
use Rattle.metadata.specs.steps.Spelled.{spelled_listing, spelled_listings}
use Rattle.document_parts.proofs.Elements.{none_left}
use Rattle.document_parts.proofs.Found.{each_proper}
use Rattle.document_parts.proofs.Growing.{MembersGrow, members_grow, members_left, members_done}
use Rattle.metadata.proofs.listings.read_listings.Goals as goal

pub members-preserved : goal.members-preserved
members-preserved c =
    let all = members_view c.args.members.now in
    let rest = members_view c.members.rest.now in
    let later = members_view c.in-Some.later.now in
    let path = string_bytes c.in-Some.member.now.0 in
    let value = view c.in-Some.member.now.1 in
    let at = ap members_view c.in-Some.ensures.cases.0 in
    let listing = subst (λ (n : List ℕ). IsListing n value (spelled_listing c.in_ok-listing.listing)) c.as_str.ensures.value c.in_ok-listing.ensures.ok in
    let grown = members_grow IsListing all rest later path value (spelled_listing c.in_ok-listing.listing) (spelled_listings c.members.listings.items) at listing c.members.invariant.grow in
    let items = ap spelled_listings c.in_ok-push.ensures.items ∙ map-append spelled_listing c.members.listings.items (c.in_ok-listing.listing ∷ []) in
    record {
      grow = subst (λ (z : List plain.Listing). MembersGrow IsListing all later z) (sym items) grown;
      left = members_left IsListing all rest later path value at c.members.invariant.left;
      proper = (each_proper rest later path value at c.members.invariant.proper).1;
    }

pub returns-clause-ok : goal.returns-clause-ok
returns-clause-ok c =
    members_done IsListing (members_view c.args.members.now) (members_view c.members.rest.now) (spelled_listings c.members.listings.items)
    (ap members_view (none_left c.members.rest.now c.in_default.ensures.cases)) c.members.invariant.grow
