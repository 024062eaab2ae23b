use Rattle.std.proofs.Common.{◌≡◌, ◌+◌, ◌≤◌, length}
use Rattle.keys_roles.specs.Views.{entries_view, id_text}
use Rattle.signer.specs.Files.{others as others_of}
use Rattle.signer.proofs.entries.others.Given as goal

-- those that were counted, and those that are left
abbrev pub invariant-entries : goal.invariant-entries
invariant-entries l =
    (l.count + length (others_of (id_text l.id) (entries_view l.rest)) ≡ length (others_of (id_text l.id) (entries_view l.fn.entries)))
    × (l.count + length l.rest ≤ length l.fn.entries)

abbrev pub decreases-entries : goal.decreases-entries
decreases-entries l = length l.rest
