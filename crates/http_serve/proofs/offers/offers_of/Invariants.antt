use Rattle.std.proofs.Common.{◌≡◌}
use Rattle.store.specs.StateViews.{documents_view}
use Rattle.http_serve.specs.steps.Views.{offers_of}
use Rattle.http_serve.proofs.offers.offers_of.Given as goal

-- those that were taken are offers
abbrev pub invariant-documents : goal.invariant-documents
invariant-documents l = documents_view l.offers.items ≡ offers_of l.yielded
