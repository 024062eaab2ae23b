use Rattle.std.proofs.Common.{◌≡◌, ◌++◌, length}
use Rattle.hash_bins.specs.Bins.{all_of}
use Rattle.hash_bins.specs.Views.{bins_view, texts_view}
use Rattle.hash_bins.specs.steps.Sharing.{bins_with}
use Rattle.hash_bins.proofs.bins.bins_of.Given as goal

-- the bins that are there, and after them those of the numbers and prefixes that are left
abbrev pub invariant-numbers : goal.invariant-numbers
invariant-numbers l =
    bins_view l.bins.items ++ bins_with l.share (texts_view l.numbers) (texts_view l.rest) ≡ bins_with l.share (all_of l.fn.count) (all_of l.fn.count)

abbrev pub decreases-numbers : goal.decreases-numbers
decreases-numbers l = length l.numbers
