use Rattle.std.proofs.Common.{◌≡◌, ◌+◌, ◌≤◌, length}
use Rattle.keys_roles.specs.Views.{entries_view}
use Rattle.signer.specs.Joining.{missing as missing_of}
use Rattle.signer.proofs.lists.missing.Given as goal

-- those that were counted, and those that are left
abbrev pub invariant-further : goal.invariant-further
invariant-further l =
    (l.count + length (missing_of (entries_view l.entries) (entries_view l.rest)) ≡ length (missing_of (entries_view l.entries) (entries_view l.fn.further)))
    × (l.count + length l.rest ≤ length l.fn.further)

abbrev pub decreases-further : goal.decreases-further
decreases-further l = length l.rest
