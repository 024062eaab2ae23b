-- Calls one after the other.
use Rattle.std.proofs.Common.{◌≡◌}
use Rattle.trust_rules.specs.State.{State}
use Rattle.store.specs.Standing.{Keeps, Standing, StandsAt}
use Rattle.client.specs.Changes.{Changes}

-- no call at all
pub rests : (A : Standing) (P : State → State → Type 0) → ((S : State) → StandsAt A S → P S S) → Changes A A P
rests A P h = record { moves = λ S at. (S, at, h S at); clean = λ clean. clean }

-- the same, said in other words
pub becomes : {A B : Standing} (P Q : State → State → Type 0) → Changes A B P → ((C D : State) → P C D → Q C D) → Changes A B Q
becomes P Q h f = record { moves = λ S at. let (T, to, p) = h.moves S at in (T, to, f S T p); clean = h.clean }

-- one call after another
pub follows : {A B E : Standing} (P Q R : State → State → Type 0) → Changes A B P → Changes B E Q → ((C D F : State) → P C D → Q D F → R C F) → Changes A E R
follows P Q R h k f = record {
  moves = λ S at. let (T, to, p) = h.moves S at in let (U, there, q) = k.moves T to in (U, there, f S T U p q);
  clean = λ clean. h.clean (k.clean clean);
}

-- a call that changed nothing
pub kept : {A B : Standing} → Keeps A B → Changes A B (λ C D. D ≡ C)
kept keeps = record { moves = keeps.state; clean = keeps.clean }

-- the same, where the store stood is looked at
pub becomes_at : {A B : Standing} (P Q : State → State → Type 0) → Changes A B P → ((C D : State) → StandsAt A C → P C D → Q C D) → Changes A B Q
becomes_at P Q h f = record { moves = λ S at. let (T, to, p) = h.moves S at in (T, to, f S T at p); clean = h.clean }
