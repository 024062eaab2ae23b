use Rattle.std.proofs.Common.{◌≡◌, length, map, take}
use Rattle.trusted_state.specs.Views.{offer_view}
use Rattle.cli_repository.proofs.arguments.batch_of.Given as goal

-- those that were taken, in order, and as many files
abbrev pub invariant-documents : goal.invariant-documents
invariant-documents l =
    (map (λ b. offer_view b.0) l.batch.items ≡ map (λ d. offer_view d.0) (take (length l.yielded) l.fn.documents.items))
    × (map (λ b. b.1.now) l.batch.items ≡ map (λ f. f.bytes.items) (take (length l.yielded) l.fn.files))
