use Rattle.std.proofs.Common.{sym, subst}
use Rattle.denials.specs.Views.{denial_view}
use Rattle.client.specs.Wanted.{Misses}
use Rattle.client.specs.WantedViews.{wanted_view}
use Rattle.client.proofs.OneFile.{misses_blob}
use Rattle.client.proofs.missing.missing.Goals as goal

pub returns-in-Ok : goal.returns-in-Ok
returns-in-Ok c = let (text, asks, e) = c.in-Ok.ensures in subst (λ d. Misses (denial_view d) (wanted_view c.in-Ok.wanted)) (sym c.in-BlobMissing.is) (misses_blob text _ _ _ _ asks e)
