-- What a call's answer says of the state that its changes make.
use Rattle.std.proofs.Common.{◌≡◌, Ok, sym, subst}
use Rattle.denials.specs.Orders.{Order}
use Rattle.trusted_state.specs.Answers.{Answers, changes, AnswersBatch, done}
use Rattle.trust_rules.specs.Offers.{BatchOrder}
use Rattle.trust_rules.specs.Effects.{applied}
use Rattle.trust_rules.specs.State.{State, IsState}
use Rattle.trusted_state.specs.PartViews.{effects_view}
use Rattle.trusted_state.specs.DeclaredEffects.{Effects}
use Rattle.trusted_state.specs.declared.outcome.Outcome.{Outcome}
use Rattle.trusted_state.specs.declared.outcome.Outcome.TheVariants.{Changed}
use Rattle.trusted_state.specs.declared.outcome.Batched.{Batched}

changed : {S T : State} {m : Order State} {e : Effects} → T ≡ S → Answers S m (Ok (Changed e)) → IsState (applied T (effects_view e))
changed {e = e} same (changes _ valid) = subst (λ S. IsState (applied S (effects_view e))) (sym same) valid

pub makes_state : {S T : State} {m : Order State} {o : Outcome} {e : Effects} → T ≡ S → o ≡ Changed e → Answers S m (Ok o) → IsState (applied T (effects_view e))
makes_state {S = S} {m = m} same is answer = changed same (subst (λ o. Answers S m (Ok o)) is answer)

pub batch_makes_state : {S T : State} {m : BatchOrder} {b : Batched} → T ≡ S → AnswersBatch S m (Ok b) → IsState (applied T (effects_view b.effects))
batch_makes_state {b = b} same (done _ _ valid) = subst (λ S. IsState (applied S (effects_view b.effects))) (sym same) valid
