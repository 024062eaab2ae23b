use Rattle.std.proofs.Common.{◌≡◌, length}
use Rattle.keys_roles.specs.Views.{entries_view, id_text}
use Rattle.signer.specs.Joining.{has_entry as has_entry_of}
use Rattle.signer.proofs.lists.has_entry.Given as goal

-- none of those before was of the key
abbrev pub invariant-entries : goal.invariant-entries
invariant-entries l = has_entry_of (entries_view l.rest) (id_text l.id) ≡ has_entry_of (entries_view l.fn.entries) (id_text l.id)

abbrev pub decreases-entries : goal.decreases-entries
decreases-entries l = length l.rest
