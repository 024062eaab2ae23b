-- Calls over several sources in turn: what a call of one of them begins at, and what comes after it.
use Rattle.std.proofs.Common.{◌≡◌, ◌⊎◌, inl, inr, ℕ, suc, ◌+◌, ◌<◌, ◌≤◌, List, [], ◌∷◌, ◌++◌, Result, Ok, Err, refl, subst, arith}
use Rattle.std.proofs.lemmas.Bool.{cases_lt}
use Rattle.metadata.specs.File.{Bytes}
use Rattle.trust_rules.specs.State.{IsState, State}
use Rattle.fetch.specs.Source.{Asked, Gives, none, one}
use Rattle.client.specs.Answering.{IsHonest}
use Rattle.client.specs.Asking.{AsksAtMost}
use Rattle.client.specs.Several as asks
use Rattle.client.specs.Several.{AsksInTurn, InTurn, IsHonestAt, Told, Turns, ends, goes, over, together}
use Rattle.client.specs.Views.{Fault}
use Rattle.client.specs.Taken.{IsTaking, RunsOn}
use Rattle.client.proofs.Asks.{asked-append}
use Rattle.client.proofs.Runs.{runs_then, stays}

-- ---- the source whose turn it is

module _ {Src : Type 0} (gives : Gives Src) (turns : Turns Src) (place : ℕ) (S : State) (now : ℕ) where
  -- its turn began, and it was asked for these
  pub record From (t : Src) : Type 0 where
    pub before : Src
    pub begun : Src
    pub asks : List (Bytes × ℕ)
    pub turn : turns before place begun
    pub asked : Asked gives begun asks t

  pub from_turn : (s t : Src) → turns s place t → From t
  from_turn s t h = record { before = s; begun = t; asks = []; turn = h; asked = none }

  pub is_honest : IsHonestAt gives turns place S now → IsHonest gives From S now
  is_honest h = record {
    answers = λ s t name limit answer is g. h is.before is.begun s t is.asks name limit answer is.turn is.asked g;
    stays = λ s t name limit answer is g. record {
      before = is.before;
      begun = is.begun;
      asks = is.asks ++ (name, limit) ∷ [];
      turn = is.turn;
      asked = asked-append gives is.begun s t is.asks ((name, limit) ∷ []) is.asked (one g none);
    };
  }

-- ---- one of the calls

module _ {Src A : Type 0} (turns tells : Turns Src) (Call : Src → State → Src → State → Result A Fault → Type 0) (IsEnd : Result A Fault → Type 0) (Keeps : State → State → Type 0)
    (self : (C : State) → Keeps C C) (on : (C D E : State) → Keeps C D → Keeps D E → Keeps C E)
    (each : (s t : Src) (C D : State) (r : Result A Fault) → IsState C → Call s C t D r → Keeps C D × IsState D) where
  pub keeps : (place n : ℕ) (so_far q : Result A Fault) (s v : Src) (C E : State) → IsState C → InTurn turns tells Call IsEnd place n so_far s C v E q → Keeps C E × IsState E
  keeps place _ so_far _ s _ C _ valid over = (self C, valid)
  keeps place _ so_far q s v C E valid (ends {t = t} turn call end) = each t v C E q valid call
  keeps place _ so_far q s v C E valid (goes {n = n} {r = r} {t = t} {u = u} {v = w} {D = D} turn call not told more) =
      let one = each t u C D r valid call in
      let rest = keeps (suc place) n (together so_far r) q w v D E one.1 more in
      (on C D E one.0 rest.0, rest.1)

  -- the call of the source at this place, which was not the last
  pub record Turned (here : ℕ) (C E : State) : Type 0 where
    pub before : Src
    pub begun : Src
    pub left : Src
    pub first : State
    pub last : State
    pub end : Result A Fault
    pub up : Keeps C first
    pub valid : IsState first
    pub turn : turns before here begun
    pub call : Call begun first left last end
    pub goes_on : IsEnd end → ⊥
    pub later : Keeps last E
    pub later_valid : IsState E

  -- it is there, unless one before it was
  pub find : (here place n : ℕ) (so_far q : Result A Fault) (s v : Src) (C E : State) → place ≤ here → here < place + n → IsState C → InTurn turns tells Call IsEnd place n so_far s C v E q
      → IsEnd q ⊎ Turned here C E
  find here place _ so_far _ s _ C _ low high valid over = absurd (omega (arith, low, high))
  find here place _ so_far q s v C E low high valid (ends turn call end) = inl end
  find here place _ so_far q s v C E low high valid (goes {n = n} {r = r} {t = t} {u = u} {v = w} {D = D} turn call not told more) =
      by (λ below good. find here (suc place) n (together so_far r) q w v D E (omega (arith, below)) (omega (arith, high)) good more) (cases_lt place here)
    where
      one : Keeps C D × IsState D
      one = each t u C D r valid call

      behind_it : IsEnd q ⊎ Turned here D E → IsEnd q ⊎ Turned here C E
      behind_it (inl end) = inl end
      behind_it (inr h) = inr (record {
        before = h.before;
        begun = h.begun;
        left = h.left;
        first = h.first;
        last = h.last;
        end = h.end;
        up = on C D h.first one.0 h.up;
        valid = h.valid;
        turn = h.turn;
        call = h.call;
        goes_on = h.goes_on;
        later = h.later;
        later_valid = h.later_valid;
      })

      by : (place < here → IsState D → IsEnd q ⊎ Turned here D E) → (place < here) ⊎ (here ≤ place) → IsEnd q ⊎ Turned here C E
      by find_on (inl below) = behind_it (find_on below one.1)
      by find_on (inr above) =
          let same : place ≡ here = omega (arith, low, above) in
          let rest = keeps (suc place) n (together so_far r) q w v D E one.1 more in
          inr (record {
            before = s;
            begun = t;
            left = u;
            first = C;
            last = D;
            end = r;
            up = self C;
            valid = valid;
            turn = subst (λ (p : ℕ). turns s p t) same turn;
            call = call;
            goes_on = not;
            later = rest.0;
            later_valid = rest.1;
          })

-- what is asked for in its turns
module _ {Src A : Type 0} (gives : Gives Src) (turns tells : Turns Src) (Call : Src → State → Src → State → Result A Fault → Type 0) (IsEnd : Result A Fault → Type 0) (most : ℕ)
    (each : (s t : Src) (C D : State) (r : Result A Fault) → Call s C t D r → AsksAtMost gives most s t) where
  after : {place : ℕ} {u v : Src} (r : Result A Fault) → Told tells place r u v → (v ≡ u) ⊎ tells u place v
  after (Ok a) same = inl same
  after (Err fault) told = inr told

  pub turns-ask : (place n : ℕ) (so_far q : Result A Fault) (s v : Src) (C E : State) → InTurn turns tells Call IsEnd place n so_far s C v E q → AsksInTurn gives turns tells most place n s v
  turns-ask place _ so_far _ s _ C _ over = asks.done
  turns-ask place _ so_far q s v C E (ends {t = t} turn call end) = asks.one {v = v} turn (each t v C E q call) (inl refl) asks.done
  turns-ask place _ so_far q s v C E (goes {n = n} {r = r} {t = t} {u = u} {v = w} {D = D} turn call not told more) =
      asks.one turn (each t u C D r call) (after r told) (turns-ask (suc place) n (together so_far r) q w v D E more)

-- and the run that they come to
module _ {Src A : Type 0} (turns tells : Turns Src) (Call : Src → State → Src → State → Result A Fault → Type 0) (IsEnd : Result A Fault → Type 0) (now : ℕ)
    (each : (s t : Src) (C D : State) (r : Result A Fault) → Call s C t D r → RunsOn IsTaking now C D) where
  pub turns-run : (place n : ℕ) (so_far q : Result A Fault) (s v : Src) (C E : State) → InTurn turns tells Call IsEnd place n so_far s C v E q → RunsOn IsTaking now C E
  turns-run place _ so_far _ s _ C _ over = stays IsTaking now C
  turns-run place _ so_far q s v C E (ends {t = t} turn call end) = each t v C E q call
  turns-run place _ so_far q s v C E (goes {n = n} {r = r} {t = t} {u = u} {v = w} {D = D} turn call not told more) =
      runs_then IsTaking now C D E (each t u C D r call) (turns-run (suc place) n (together so_far r) q w v D E more)
