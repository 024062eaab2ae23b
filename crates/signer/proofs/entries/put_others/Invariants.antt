use Rattle.std.proofs.Common.{◌≡◌, ◌++◌, length}
use Rattle.keys_roles.specs.Views.{entries_view, id_text}
use Rattle.signer.specs.Files.{others as others_of}
use Rattle.signer.specs.steps.Texts.{entries_text}
use Rattle.signer.proofs.entries.put_others.Given as goal

-- what was written, and what is left
abbrev pub invariant-entries : goal.invariant-entries
invariant-entries l =
    l.out.items ++ entries_text (others_of (id_text l.id) (entries_view l.rest)) ≡ l.fn.out.items ++ entries_text (others_of (id_text l.id) (entries_view l.fn.entries))

abbrev pub decreases-entries : goal.decreases-entries
decreases-entries l = length l.rest
