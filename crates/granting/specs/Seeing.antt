-- Where a request for a target searches.
use Rattle.std.specs.Prelude.{ℕ}
use Rattle.denials.specs.Numbers as no
use Rattle.denials.specs.Orders.{Order, give, need, ◌>>=◌}
use Rattle.delegations.specs.Search.{Shelf, shelf_of}
use Rattle.trust_rules.specs.State.{Trusted}
use Rattle.trust_rules.specs.Offers.{live_snapshot}

-- the shelf under the root and the snapshot that are live, or the first check before a search that fails
abbrev pub standing : Trusted → ℕ → Order Shelf
standing T now = do
  root ← need no.no_root T.root
  snap ← live_snapshot T.timestamp T.snapshot root now
  give (shelf_of root snap T.shelf)
