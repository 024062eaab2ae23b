use Rattle.std.proofs.Common.{◌≡◌, ◌++◌, flat_map, map, take}
use Rattle.hash_bins.specs.Views.{texts_view}
use Rattle.hash_bins.proofs.texts.add_all_longer.Given as goal

abbrev pub invariant-loop-front : goal.invariant-loop-front
invariant-loop-front l =
    texts_view l.texts.items ≡ texts_view l.fn.texts.items ++ flat_map (λ f. map (λ d. f.now ++ d.now) l.digits) (take l.front-index l.fronts)
