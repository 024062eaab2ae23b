use Rattle.std.proofs.Common.{◌≡◌, ◌++◌, length}
use Rattle.keys_roles.specs.Views.{entries_view}
use Rattle.signer.specs.Joining.{missing as missing_of}
use Rattle.signer.specs.steps.Texts.{entries_text}
use Rattle.signer.proofs.lists.put_missing.Given as goal

-- what was written, and what is left
abbrev pub invariant-further : goal.invariant-further
invariant-further l =
    l.out.items ++ entries_text (missing_of (entries_view l.entries) (entries_view l.rest)) ≡ l.fn.out.items ++ entries_text (missing_of (entries_view l.entries) (entries_view l.fn.further))

abbrev pub decreases-further : goal.decreases-further
decreases-further l = length l.rest
