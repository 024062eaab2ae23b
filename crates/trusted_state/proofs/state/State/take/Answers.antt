use Rattle.std.proofs.Common.{◌≡◌, ◌∙◌, List, ap, refl, sym, subst, bytes_eq}
use Rattle.metadata.specs.File.{Bytes}
use Rattle.path_patterns.specs.declared.Digest.{Digest}
use Rattle.trust_rules.specs.Effects as changes
use Rattle.trust_rules.specs.Effects.{applied, with_blobs, without}
use Rattle.repository_rows.specs.Contents.{lengths_of}
use Rattle.trust_rules.specs.Held.{Held, IsHeld, held_of, held_with}
use Rattle.trusted_state.specs.Room.{WithRoom, state_with}
use Rattle.trust_rules.specs.State.{State, IsState}
use Rattle.state_parts.specs.Views.{digest_views, effects_view, made_view}
use Rattle.state_parts.specs.declared.effects.Blob.{Blob}
use Rattle.trust_rules.proofs.HeldStates.{both_held, held_applied, taken}
use Rattle.trusted_state.proofs.state.State.take.Goals as goal

pub take_beside-requires-clause-valid : goal.take_beside-requires-clause-valid
take_beside-requires-clause-valid c =
    let S : State = state_with c.self.inside.held c.self.inside.blobs in
    let E : changes.Effects = effects_view c.args.effects in
    let is : held_of S ≡ c.self.inside.held.held = both_held refl c.self.invariant.1 in
    subst (λ (bs : List Blob). IsHeld (held_with c.self.inside.held.held (made_view c.args.effects.changes bs c.args.effects.gone))) (sym c.deref.ensures.value)
    (taken S E is (subst (λ (k : WithRoom). IsState (applied k.state E)) (sym c.self.view_is) c.requires.valid))

pub invariant_of-self : goal.invariant_of-self
invariant_of-self c =
    let S : State = state_with c.self.inside.held c.self.inside.blobs in
    let E : changes.Effects = effects_view c.args.effects in
    let is : held_of S ≡ c.self.inside.held.held = both_held refl c.self.invariant.1 in
    let left = c.drop_blobs.ensures.rows ∙ ap (λ (ds : List Digest). without bytes_eq S.blobs (digest_views ds)) c.deref-2.ensures.value in
    let blobs = c.take_blobs.ensures ∙ ap (λ (bs : List (Bytes × Bytes)). with_blobs bs E.blobs) left in
    let same : state_with c.take_beside.new.self c.take_blobs.new.blobs ≡ applied S E =
    λ i. record { trusted = ap (λ (H : Held). H.trusted) c.take_beside.ensures.held i; blobs = blobs i } in (
      subst IsState (sym same) (subst (λ (k : WithRoom). IsState (applied k.state E)) (sym c.self.view_is) c.requires.valid),
      ap lengths_of blobs ∙ ap (λ (H : Held). H.blobs) (held_applied S E) ∙ ap (λ (H : Held). (held_with H E).blobs) is
          ∙ ap (λ (bs : List Blob). (held_with c.self.inside.held.held (made_view c.args.effects.changes bs c.args.effects.gone)).blobs) (sym c.deref.ensures.value)
          ∙ sym (ap (λ (H : Held). H.blobs) c.take_beside.ensures.held),
    )
