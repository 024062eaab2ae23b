use Rattle.std.proofs.Common.{arith}
use Rattle.std.proofs.lemmas.Iterator.Adapters.{YieldsList-from_vec}
use Rattle.std.proofs.lemmas.Iterator.Consumers.{YieldsList-turn}
use Rattle.std.proofs.lemmas.Result.{err_from_is_err_and}
use Rattle.document_parts.specs.Documents as plain
use Rattle.metadata.specs.steps.Entries.{HasIds, IsOwned}
use Rattle.metadata.specs.steps.Spelled.{spelled_listing}
use Rattle.document_parts.proofs.Ill.{misnamed_again}
use Rattle.document_parts.proofs.Named.{each_at}
use Rattle.metadata.proofs.listings.name_listings.Goals as goal

pub name_listing-requires : goal.name_listing-requires
name_listing-requires c =
    let g = c.into_iter-listing-iterator.ensures.into_iter_gives in
    let all = YieldsList-from_vec {s = c.into_iter-listing-iterator.result} c.args.spelled.items g.0 (omega (arith, g.1, c.args.spelled.ok.0)) in
    let turn = YieldsList-turn all c.loop-listing.yielded c.loop-listing.listing-iterator c.loop-listing.yielded_by c.next.result c.next.new.self c.in-Some.listing c.in-Some.is c.next.ensures.steps in
    each_at spelled_listing (λ (l : plain.Listing). IsOwned l.layout) c.args.spelled.items _ c.in-Some.listing c.requires turn.0 turn.1

pub returns-in_err-named-clause-err : goal.returns-in_err-named-clause-err
returns-in_err-named-clause-err c =
    let p = err_from_is_err_and c.from_residual.result c.from_residual.ensures.1 in
    let g = c.into_iter-listing-iterator.ensures.into_iter_gives in
    let all = YieldsList-from_vec {s = c.into_iter-listing-iterator.result} c.args.spelled.items g.0 (omega (arith, g.1, c.args.spelled.ok.0)) in
    let turn = YieldsList-turn all c.loop-listing.yielded c.loop-listing.listing-iterator c.loop-listing.yielded_by c.next.result c.next.new.self c.in-Some.listing c.in-Some.is c.next.ensures.steps in
    rw (p.1, p.2) (misnamed_again _ c.in_err-named.ensures.err
    (λ h. each_at spelled_listing (λ (l : plain.Listing). HasIds l.layout) c.args.spelled.items _ c.in-Some.listing h turn.0 turn.1))
