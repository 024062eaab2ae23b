use Rattle.std.proofs.Common.{◌∙◌, ℕ, List, ap, sym, subst, bytes_eq}
use Rattle.metadata.specs.File.{Bytes}
use Rattle.path_patterns.specs.declared.Digest.{Digest}
use Rattle.delegations.specs.Rows.{Place, Rows, same_place}
use Rattle.trust_rules.specs.Effects.{brought, without}
use Rattle.trust_rules.specs.Held.{Held, IsHeld, held_with, with_lengths}
use Rattle.trusted_state.specs.Knowing.{IsKnown}
use Rattle.trusted_state.specs.Room.{WithPlaces}
use Rattle.trust_rules.specs.State.{Trusted}
use Rattle.state_parts.specs.Views.{blob_views, changes_view, digest_views, length_views, made_view, trusted_view}
use Rattle.trust_rules.proofs.HeldStates.{both_held}
use Rattle.trusted_state.proofs.held.Held.take_beside.Goals as goal

pub invariant_of-self : goal.invariant_of-self
invariant_of-self c =
    let T : Trusted = trusted_view c.self.inside.trusted in
    let rows = c.drop_rows.ensures.rows ∙ ap (λ (places : List Place). without same_place T.shelf places) c.deref.ensures.value in
    let trust = c.take_changes.ensures ∙ ap (λ (shelf : Rows). brought (record T { shelf = shelf }) (changes_view c.args.changes)) rows in
    let left = c.drop_lengths.ensures.rows ∙ ap (λ (ds : List Digest). without bytes_eq (length_views c.self.inside.blobs.items) (digest_views ds)) c.deref-2.ensures.value in
    let lengths = c.take_lengths.ensures ∙ ap (λ (l : List (Bytes × ℕ)). with_lengths l (blob_views c.args.blobs.now)) left in
    let made = both_held trust lengths ∙ ap (λ (k : WithPlaces). held_with k.held (made_view c.args.changes c.args.blobs.now c.args.gone.now)) c.self.view_is in
    (subst IsHeld (sym made) c.requires.valid, subst (λ (H : Held). IsKnown H.trusted c.args.verdicts) (sym made) c.requires.known)

pub returns-clause-held : goal.returns-clause-held
returns-clause-held c =
    let T : Trusted = trusted_view c.self.inside.trusted in
    let rows = c.drop_rows.ensures.rows ∙ ap (λ (places : List Place). without same_place T.shelf places) c.deref.ensures.value in
    let trust = c.take_changes.ensures ∙ ap (λ (shelf : Rows). brought (record T { shelf = shelf }) (changes_view c.args.changes)) rows in
    let left = c.drop_lengths.ensures.rows ∙ ap (λ (ds : List Digest). without bytes_eq (length_views c.self.inside.blobs.items) (digest_views ds)) c.deref-2.ensures.value in
    let lengths = c.take_lengths.ensures ∙ ap (λ (l : List (Bytes × ℕ)). with_lengths l (blob_views c.args.blobs.now)) left in
    both_held trust lengths ∙ ap (λ (k : WithPlaces). held_with k.held (made_view c.args.changes c.args.blobs.now c.args.gone.now)) c.self.view_is
