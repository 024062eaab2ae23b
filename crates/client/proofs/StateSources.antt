-- A source that answers from a state at a moment is honest.
use Rattle.std.proofs.Common.{◌≡◌, ℕ, Option, Some, None, Ok, Err, sym, subst}
use Rattle.std.specs.Borrow.{Bor}
use Rattle.std.specs.Prelude.{option_map}
use Rattle.metadata.specs.File.{Bytes}
use Rattle.trust_rules.specs.State.{State}
use Rattle.fetch.specs.Source.{Gives}
use Rattle.fetch.specs.declared.FetchFault.{FetchFault}
use Rattle.fetch.specs.declared.FetchFault.TheVariants.{OutOfMemory}
use Rattle.client.specs.Answering.{AnswersFrom, IsAnswer, IsHeldAs, IsHonest, has_none, lacks_memory}
use Rattle.client.proofs.Found.{copy_answers}

module _ {Src : Type 0} (state_of : Src → State) (now_of : Src → ℕ) where
  abbrev pub gives_of : Gives Src
  gives_of s name limit answer t = (t ≡ s) × AnswersFrom (state_of s) (now_of s) name limit answer

  abbrev pub IsAt : State → ℕ → Src → Type 0
  IsAt S now s = (state_of s ≡ S) × (now_of s ≡ now)

  pub honest_source : (S : State) (now : ℕ) → IsHonest gives_of (IsAt S now) S now
  honest_source S now = record {
    answers = λ s t name limit answer is g.
        subst (λ (m : ℕ). AnswersFrom S m name limit answer) is.1 (subst (λ (X : State). AnswersFrom X (now_of s) name limit answer) is.0 g.1);
    stays = λ s t name limit answer is g. subst (IsAt S now) (sym g.0) is;
  }

-- what was found, as an answer
module _ (S : State) (now : ℕ) (name : Bytes) (limit : ℕ) where
  pub some_answers : (o : Option (Bor Bytes)) (b : Bor Bytes) (answer : _) → o ≡ Some b → IsHeldAs S now name (option_map (λ c. c.now) o) → IsAnswer limit (λ found. found ≡ Some b.now) answer → AnswersFrom S now name limit answer
  some_answers o b answer e h k = copy_answers limit (IsHeldAs S now name) b.now answer (subst (λ (p : Option (Bor Bytes)). IsHeldAs S now name (option_map (λ c. c.now) p)) e h) k

  pub none_answers : (o : Option (Bor Bytes)) → o ≡ None → IsHeldAs S now name (option_map (λ c. c.now) o) → AnswersFrom S now name limit (Ok None)
  none_answers o e h = has_none (subst (λ (p : Option (Bor Bytes)). IsHeldAs S now name (option_map (λ c. c.now) p)) e h)

  pub fault_answers : (fault : FetchFault) → fault ≡ OutOfMemory → AnswersFrom S now name limit (Err fault)
  fault_answers fault e = subst (λ (f : FetchFault). AnswersFrom S now name limit (Err f)) (sym e) lacks_memory
