use Rattle.std.proofs.Common.{map, string_bytes, take}
use Rattle.trusted_state.specs.Views.{offer_view}
use Rattle.cli_repository.specs.Arguments.{AreDocuments}
use Rattle.cli_repository.proofs.arguments.documents_of.Given as goal

-- those before the index are documents
abbrev pub invariant-loop-index : goal.invariant-loop-index
invariant-loop-index l = AreDocuments (take l.index (map (λ a. string_bytes a) l.fn.arguments)) (map (λ d. (offer_view d.0, d.1.now)) l.documents.items)
