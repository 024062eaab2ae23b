-- A query whose rows are read one at a time.
use Rattle.std.proofs.Common.{◌≡◌, ℕ, List, None, sym, subst, Ok}
use Rattle.sqlite.specs.Order.{Row}
use Rattle.sqlite.specs.Effect.{Database}
use Rattle.sqlite.specs.Clock.{timed}
use Rattle.sqlite.specs.Listing.{understood, reads_listing, IsSourceOf}
use Rattle.sqlite.specs.State.{State, IsUnchanged, ShowsRows, Shown}
use Rattle.sqlite.proofs.Callers.{IsPlain, unchanged_then}

-- what a query showed after calls that changed nothing, it showed from the start
pub shown_from : (sql : List ℕ) (params : Row) (old mid new : State) (rows : List Row) → IsPlain (understood old.now.schema sql) → IsUnchanged old mid → Shown sql params mid new rows → Shown sql params old new rows
unfolding Shown
shown_from sql params old mid new rows plain same h =
    let now = same.0.now_is in
    let known : understood old.now.schema sql ≡ Ok h.0 = subst (λ (d : Database). understood d.schema sql ≡ Ok h.0) now h.1.is in
    let none : h.0.returning ≡ None = (subst IsPlain known plain).0 in
    let full = timed params h.0.formats h.1.now in
    let it = subst (ShowsRows mid new sql h.0 full rows) none h.2 in (
      h.0,
      record { is = known; whole = h.1.whole; given = h.1.given; now = h.1.now },
      subst (ShowsRows old new sql h.0 full rows) (sym none) (it.0, subst (λ (d : Database). IsSourceOf (reads_listing d.schema sql) d it.0) now it.1, it.2, unchanged_then old mid new same it.3),
    )
