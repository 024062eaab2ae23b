use Rattle.std.proofs.Common.{◌∙◌, List, Option, ap, refl, sym, subst}
use Rattle.std.proofs.lemmas.Bool.{true≢false}
use Rattle.std.specs.Prelude.{IsSome}
use Rattle.metadata.specs.File.{Bytes}
use Rattle.trust_rules.specs.State.{blob_at}
use Rattle.trust_rules.proofs.HeldStates.{is_there}
use Rattle.granting.proofs.getting.lent.Goals as goal

pub unreachable-requires : goal.unreachable-requires
unreachable-requires c =
    let S = c.args.state.now.state in
    let none = c.in-None.ensures ∙ ap (λ (l : List (Bytes × Bytes)). blob_at l c.args.digest.0) c.blobs.ensures.view in
    true≢false (sym (subst (λ (o : Option Bytes). IsSome o) (sym none) ((is_there S c.args.digest.0 refl).0 c.requires)))
