use Rattle.std.proofs.Common.{◌≡◌, ◌++◌, map, take}
use Rattle.hash_bins.specs.Views.{texts_view}
use Rattle.hash_bins.proofs.texts.add_longer.Given as goal

abbrev pub invariant-loop-digit : goal.invariant-loop-digit
invariant-loop-digit l = texts_view l.texts.items ≡ texts_view l.fn.texts.items ++ map (λ d. l.front ++ d.now) (take l.digit-index l.digits)
