use Rattle.served_files.specs.Served.{target}
use Rattle.served_files.proofs.InOrder.{listed_none, listings_next}
use Rattle.served_files.proofs.Telling.{became_both, became_none, became_one}
use Rattle.served_files.proofs.visiting.visit_listings.Goals as goal

pub loop-listing-init : goal.loop-listing-init
loop-listing-init g c = became_none _ _ _ (λ files. listed_none files)

pub loop-listing-preserved : goal.loop-listing-preserved
loop-listing-preserved g c = became_both _ _ _ _ _ _ _ c.loop-listing.invariant
    (became_one _ _ _ (target c.listing-item.result.path c.listing-item.result.digest.0) c.in_ok-visit_target.ensures)
    (λ files xs ys just told. listings_next files c.args.listings.now c.loop-listing.listing-index c.listing-item.result xs ys c.loop-listing-test.true c.listing-item.is just told)
