-- One more blob as the only change.
use Rattle.std.proofs.Common.{◌≡◌, List, [], ◌∷◌, ◌++◌, Option, Some, None, Ok, Err, true, false, refl, sym, ap, ◌∙◌, subst}
use Rattle.std.proofs.lemmas.Bool.{true≢false}
use Rattle.std.specs.Prelude.{is_some, option_map}
use Rattle.document_parts.specs.Documents.{Profile}
use Rattle.metadata.specs.File.{Bytes}
use Rattle.denials.specs.Orders as orders
use Rattle.denials.specs.Orders.{Order, Judged, ◌>>=◌, need_or, pass, decide, given, stopped}
use Rattle.delegations.specs.Delegation.{before}
use Rattle.delegations.specs.Rows.{with_row}
use Rattle.trusted_state.specs.Answers.{Answers, changes, refused, unanswered}
use Rattle.trusted_state.specs.steps.Judging.{Judges, rejects, stops}
use Rattle.trust_rules.specs.State.{State, IsState}
use Rattle.trust_rules.specs.Effects as plain
use Rattle.trust_rules.specs.Effects.{applied, no_effects}
use Rattle.trusted_state.specs.PartViews.{effects_view}
use Rattle.trusted_state.specs.DeclaredEffects.{Effects}
use Rattle.trusted_state.specs.declared.outcome.Outcome.TheVariants.{Changed}
use Rattle.trusted_state.specs.declared.refusal.Refusal.{Refusal}

none_more : (roots : List (Profile × Bytes)) → roots ++ [] ≡ roots
none_more [] = refl
none_more (b ∷ bs) = ap (λ (l : List (Profile × Bytes)). b ∷ l) (none_more bs)

one_more : (S : State) (digest b : Bytes) → applied S (record no_effects { blobs = (digest, b) ∷ [] }) ≡ record S { blobs = with_row before S.blobs digest b }
one_more S digest b = ap (λ (l : List (Profile × Bytes)). record { trusted = record S.trusted { roots = l }; blobs = with_row before S.blobs digest b }) (none_more S.trusted.roots)

pub with_one : (S : State) (E : plain.Effects) (digest b : Bytes) → E ≡ record no_effects { blobs = (digest, b) ∷ [] } → applied S E ≡ record S { blobs = with_row before S.blobs digest b }
with_one S E digest b e = ap (applied S) e ∙ one_more S digest b

-- a line that asks for what is there, or is not, and nothing of what it is
pub there : {A B X : Type 0} (f : X → A) (d : orders.Denial) {m : Order B} {r : Judged B} (o : Option X) → is_some o ≡ true → m r → (need_or d (option_map f o) >>= λ a. m) r
there f d (Some x) e h = pass given h
there f d None e h = absurd (true≢false (sym e))

pub not_there : {A B X : Type 0} (f : X → A) (d : orders.Denial) {m : Order B} (o : Option X) → is_some o ≡ false → (need_or d (option_map f o) >>= λ a. m) (Err (orders.Denied d))
not_there f d (Some x) e = absurd (true≢false e)
not_there f d None e = decide stopped

pub as_judged : {S T : State} {m : Order State} {e : Effects} → m (Ok T) → applied S (effects_view e) ≡ T → IsState T → Answers S m (Ok (Changed e))
as_judged {S} {T} {m} {e} h is valid = changes (subst (λ (U : State). m (Ok U)) (sym is) h) (subst IsState (sym is) valid)

-- what is judged so is answered so
pub answers_rejected : {S : State} {m : Order State} {given : State} {r : Refusal} → Judges m given (Err r) → Answers S m (Err r)
answers_rejected (rejects g) = refused g
answers_rejected stops = unanswered
