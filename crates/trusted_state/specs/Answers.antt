-- What a call's answer says of its order of checks.
use Rattle.std.specs.Prelude.{◌≡◌, ℕ, ◌-◌, length, Result, Ok, Err}
use Rattle.denials.specs.Orders as orders
use Rattle.denials.specs.Orders.{Order, Same}
use Rattle.trust_rules.specs.State.{State, IsState}
use Rattle.trust_rules.specs.Offers.{BatchOrder}
use Rattle.trust_rules.specs.Grants.{GrantAlike}
use Rattle.trust_rules.specs.Effects.{applied, brought}
use Rattle.denials.specs.Views.{denial_view}
use Rattle.state_parts.specs.Views.{effects_view}
use Rattle.state_parts.specs.declared.effects.Effects.{Effects}
use Rattle.trusted_state.specs.declared.outcome.Outcome.{Outcome}
use Rattle.trusted_state.specs.declared.outcome.Outcome.TheVariants.{Changed}
use Rattle.trusted_state.specs.declared.outcome.Outcome.TheVariants as outcomes
use Rattle.trusted_state.specs.declared.outcome.Batched.{Batched}
use Rattle.trusted_state.specs.declared.refusal.BatchRefusal.{BatchRefusal}
use Rattle.trusted_state.specs.declared.refusal.BatchRefusal.TheVariants as batches
use Rattle.denials.specs.declared.denial.Denial.{Denial}
use Rattle.trusted_state.specs.declared.refusal.Refusal.{Refusal}
use Rattle.trusted_state.specs.declared.refusal.Refusal.TheVariants.{Denied, OutOfMemory}

-- the value that the order gives, or the denial in which it ends
pub data Gives {A B : Type 0} (m : Order B) (view : A → B) : Result A Refusal → Type 0 where
  gives : {a : A} → m (Ok (view a)) → Gives m view (Ok a)
  denies : {d : Denial} → m (Err (orders.Denied (denial_view d))) → Gives m view (Err (Denied d))
  forgoes : Gives m view (Err OutOfMemory)

-- changes that make the state that the order gives, which is one; or its end without a change; or the denial in which it ends
pub data Answers (S : State) (m : Order State) : Result Outcome Refusal → Type 0 where
  changes : {e : Effects} → m (Ok (applied S (effects_view e))) → IsState (applied S (effects_view e)) → Answers S m (Ok (Changed e))
  unchanged : m (Err Same) → Answers S m (Ok outcomes.Same)
  refused : {d : Denial} → m (Err (orders.Denied (denial_view d))) → Answers S m (Err (Denied d))
  unanswered : Answers S m (Err OutOfMemory)

-- after the changes, each request for a target has the same end as before
abbrev pub ChangesNoGrant : State → Result Outcome Refusal → Type 0
ChangesNoGrant S (Ok (Changed e)) = GrantAlike S (applied S (effects_view e))
ChangesNoGrant S (Ok outcomes.Same) = Unit {0}
ChangesNoGrant S (Err refusal) = Unit {0}

-- by the changes, as many rows of the shelf and as many blobs go as they name
abbrev pub CountsGone : State → Result Outcome Refusal → Type 0
CountsGone S (Ok (Changed e)) =
    (length S.trusted.shelf - length (applied S (effects_view e)).trusted.shelf ≡ length e.gone.rows.items)
    × (length S.blobs - length (applied S (effects_view e)).blobs ≡ length e.gone.blobs.items)
CountsGone S (Ok outcomes.Same) = Unit {0}
CountsGone S (Err refusal) = Unit {0}

-- what a batch has done by its end, or the first denial with its index
pub data AnswersBatch (S : State) (m : BatchOrder) : Result Batched BatchRefusal → Type 0 where
  done : {b : Batched} → m (Ok (record { trusted = brought S.trusted (effects_view b.effects); accepted = b.accepted; same = b.same }))
      → applied S (effects_view b.effects) ≡ record S { trusted = brought S.trusted (effects_view b.effects) }
      → IsState (applied S (effects_view b.effects)) → AnswersBatch S m (Ok b)
  denied : {d : Denial} {i : ℕ} → m (Err (denial_view d, i)) → AnswersBatch S m (Err (batches.Denied d i))
  undone : AnswersBatch S m (Err batches.OutOfMemory)

-- the answer to a batch of so many documents, where each is the same: none is accepted, and the changes leave the state as it is
abbrev pub IsAllSame : State → ℕ → Result Batched BatchRefusal → Type 0
IsAllSame S n (Ok b) = (b.accepted ≡ 0) × (b.same ≡ n) × (applied S (effects_view b.effects) ≡ S)
IsAllSame S n (Err (batches.Denied d i)) = ⊥
IsAllSame S n (Err batches.OutOfMemory) = Unit {0}
