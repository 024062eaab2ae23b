use Rattle.std.proofs.Common.{rules, refl, inl, inr, sym, subst, codes, map, option_map, List, Option}
use Rattle.std.proofs.lemmas.Result.{err_from_is_err_and}
use Rattle.std.specs.List.{AllByRecursion}
use Rattle.canonical_json.specs.View.{view}
use Rattle.document_parts.specs.Bodies.{IsListing, HasDelegations}
use Rattle.document_parts.specs.Documents as plain
use Rattle.document_parts.specs.Members.{IsObject, MayHave}
use Rattle.document_parts.specs.Parts.{NamesAreIds}
use Rattle.metadata.specs.Shape.{delegation_tables}
use Rattle.metadata.specs.steps.Entries.{HasIds}
use Rattle.metadata.specs.steps.Spelled.{spelled_delegations, spelled_listings}
use Rattle.document_parts.specs.Views.{listing_view, delegations_view}
use Rattle.document_parts.proofs.Halving.{members_in_order, seen_in_order}
use Rattle.metadata.proofs.TargetsNamed.{all_named, all_over, all_owned, misnamed_listings, misnamed_targets}
use Rattle.metadata.proofs.targets.read_targets.Goals as goal

pub returns-in_default-clause-err : goal.returns-in_default-clause-err
returns-in_default-clause-err c = inl (inr (refl, λ t. c.in_default.ensures t.0.version t.0.expires t.1.head))

pub returns-in_default-member_of-clause-err : goal.returns-in_default-member_of-clause-err
returns-in_default-member_of-clause-err c = inl (inr (refl, λ t. c.in_default-member_of.ensures.found t.1.targets.0 t.1.targets.1))

pub named-requires : goal.named-requires
named-requires c = all_over (view c.args.signed.now) c.in_ok-spelled.spelled c.in_ok-spelled.ensures.ok

pub returns-in_err-delegations-clause-err : goal.returns-in_err-delegations-clause-err
returns-in_err-delegations-clause-err c =
    let p = err_from_is_err_and c.from_residual-in_err-delegations.result c.from_residual-in_err-delegations.ensures.1 in
    rw (p.1, p.2) (misnamed_targets (view c.args.signed.now)
    record { version = c.in-Some.version; expires = c.in-Some.expires; targets = spelled_listings c.in_ok-listings.listings.items; delegations = option_map spelled_delegations c.in_ok-spelled.spelled } _
    record { head = c.in-Some.ensures; targets = (view c.in-Some-member_of.found.now, c.in-Some-member_of.ensures.found, c.in_ok-listings.ensures.ok); delegations = c.in_ok-spelled.ensures.ok }
    c.in_err-delegations.ensures.err)

pub name_listings-requires : goal.name_listings-requires
name_listings-requires c = all_owned (view c.in-Some-member_of.found.now) (spelled_listings c.in_ok-listings.listings.items) c.in_ok-listings.ensures.ok

pub returns-in_err-targets-clause-err : goal.returns-in_err-targets-clause-err
returns-in_err-targets-clause-err c =
    let p = err_from_is_err_and c.from_residual-in_err-targets.result c.from_residual-in_err-targets.ensures.1 in
    rw (p.1, p.2) (misnamed_listings (view c.args.signed.now)
    record { version = c.in-Some.version; expires = c.in-Some.expires; targets = spelled_listings c.in_ok-listings.listings.items; delegations = option_map spelled_delegations c.in_ok-spelled.spelled } _
    record { head = c.in-Some.ensures; targets = (view c.in-Some-member_of.found.now, c.in-Some-member_of.ensures.found, c.in_ok-listings.ensures.ok); delegations = c.in_ok-spelled.ensures.ok }
    c.in_err-targets.ensures.err)

pub returns-clause-ok : goal.returns-clause-ok
returns-clause-ok c =
    let same = sym c.in_ok-delegations.ensures.ok.0 in
    let has = subst (λ (o : Option plain.Delegations). MayHave (view c.args.signed.now) (codes "delegations") HasDelegations o) same c.in_ok-spelled.ensures.ok in
    let ids = subst (λ (o : Option plain.Delegations). AllByRecursion NamesAreIds (delegation_tables o)) same c.in_ok-delegations.ensures.ok.1 in
    let named = sym c.in_ok-targets.ensures.ok.0 in
    let listed = subst (λ (ls : List plain.Listing). IsObject IsListing (view c.in-Some-member_of.found.now) ls) named c.in_ok-listings.ensures.ok in
    let own = subst (λ (ls : List plain.Listing). AllByRecursion (λ l. HasIds l.layout) ls) named c.in_ok-targets.ensures.ok.1 in (
      record { head = search rules; targets = (view c.in-Some-member_of.found.now, c.in-Some-member_of.ensures.found, listed); delegations = has },
      all_named (option_map delegations_view c.in_ok-delegations.delegations) (map listing_view c.in_ok-targets.targets.items) ids own,
    )

pub invariant_of-result : goal.invariant_of-result
invariant_of-result c =
    let v = view c.in-Some-member_of.found.now in
    let are = subst (λ (ls : List plain.Listing). IsObject IsListing v ls) (sym c.in_ok-targets.ensures.ok.0) c.in_ok-listings.ensures.ok in
    let listed = members_in_order IsListing (λ l. l.path) (λ n v l h. h.0) v (map listing_view c.in_ok-targets.targets.items) c.in-Some-member_of.ensures.proper are in
    record { in_order = seen_in_order listing_view (λ (l : plain.Listing). l.path) c.in_ok-targets.targets.items listed }
