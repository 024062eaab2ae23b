-- The run of an update and of a fetch.
use Rattle.std.proofs.Common.{◌≡◌, ℕ, Bool, List, [], ◌∷◌, ◌++◌, None, Result, Ok, sym, subst}
use Rattle.std.specs.List.{AllByRecursion}
use Rattle.std.proofs.lemmas.List.{map-append}
use Rattle.metadata.specs.File.{Bytes, Names}
use Rattle.denials.specs.Orders as orders
use Rattle.trust_rules.specs.State.{State}
use Rattle.trust_rules.specs.Grants.{grants}
use Rattle.trust_rules.specs.Runs.{Command, Reply, Runs, Steps, done, next}
use Rattle.fetch.specs.Source.{Gives}
use Rattle.client.specs.Session as session
use Rattle.client.specs.Session.{Makes, accepted, denied, unmade, Takes, TakesRoots, TakesSnapshot, TakesTimestamp, Updates, Fetches}
use Rattle.client.specs.Views.{Fault}
use Rattle.client.specs.Wanted.{Wanted, Misses, role, blob}
use Rattle.client.specs.Taken.{RunsOn, IsTaking}

all-append : {A : Type 0} (P : A → Type 0) (xs ys : List A) → AllByRecursion P xs → AllByRecursion P ys → AllByRecursion P (xs ++ ys)
all-append P [] ys h k = k
all-append P (x ∷ xs) ys h k = (h.0, all-append P xs ys h.1 k)

runs-append : {C D E : State} {cs ds : List (Command × ℕ)} {rs qs : List Reply} → Runs C cs D rs → Runs D ds E qs → Runs C (cs ++ ds) E (rs ++ qs)
runs-append done k = k
runs-append (next s h) k = next s (runs-append h k)

module _ (Is : Command → Type 0) (now : ℕ) where
  pub stays : (C : State) → RunsOn Is now C C
  stays C = record { commands = []; replies = []; each = tt; runs = done }

  pub goes : (C D : State) (command : Command) (reply : Reply) → Is command → Steps C command now (D, reply) → RunsOn Is now C D
  goes C D command reply is h = record { commands = command ∷ []; replies = reply ∷ []; each = (is, tt); runs = next h done }

  pub runs_then : (C D E : State) → RunsOn Is now C D → RunsOn Is now D E → RunsOn Is now C E
  runs_then C D E h k = record {
    commands = h.commands ++ k.commands;
    replies = h.replies ++ k.replies;
    each = all-append Is h.commands k.commands h.each k.each;
    runs = subst (λ cs. Runs C cs E (h.replies ++ k.replies)) (sym (map-append (λ command. (command, now)) h.commands k.commands)) (runs-append h.runs k.runs);
  }

made : (now : ℕ) (command : Command) (C D : State) (r : Result (Unit {0}) Fault) → IsTaking command → Makes now command C D r → RunsOn IsTaking now C D
made now command C D _ is (accepted reply h ok) = goes IsTaking now C D command reply is h
made now command C D _ is (denied index h) = goes IsTaking now C D command _ is h
made now command C _ _ is (unmade f) = stays IsTaking now C

-- a file that is offered or uploaded
abbrev IsTaker : Wanted → Type 0
IsTaker w = (b : Bytes) → IsTaking (w.command b)

missing-taker : (d : orders.Denial) (w : Wanted) → Misses d w → IsTaker w
missing-taker d w (role is) = λ b. tt
missing-taker d w (blob asks) = λ b. tt

module _ {Src : Type 0} (gives : Gives Src) (now : ℕ) where
  pub takes-runs : (w : Wanted) (s t : Src) (C D : State) (r : Result Bool Fault) → IsTaker w → Takes gives now w s C t D r → RunsOn IsTaking now C D
  takes-runs w s t C D _ is (session.taken {b = b} h short m) = made now (w.command b) C D _ (is b) m
  takes-runs w s t C D _ is (session.rejected {b = b} h short m) = made now (w.command b) C D _ (is b) m
  takes-runs w s t C _ _ is (session.absent h) = stays IsTaking now C
  takes-runs w s t C _ _ is (session.overlong h long) = stays IsTaking now C
  takes-runs w s t C _ _ is (session.failed h) = stays IsTaking now C
  takes-runs w s _ C _ _ is session.unasked = stays IsTaking now C

  roots-run : (n : ℕ) (s t : Src) (C D : State) (r : Result (Unit {0}) Fault) → TakesRoots gives now n s C t D r → RunsOn IsTaking now C D
  roots-run _ s _ C _ _ session.enough = stays IsTaking now C
  roots-run _ s _ C _ _ (session.rootless e) = stays IsTaking now C
  roots-run _ s _ C _ _ (session.highest e k) = stays IsTaking now C
  roots-run _ s t C D _ (session.newest e k h) = takes-runs _ s t C D _ (λ b. tt) h
  roots-run _ s t C D _ (session.stops e k h) = takes-runs _ s t C D _ (λ b. tt) h
  roots-run _ s u C E _ (session.further {n = n} {t = t} {D = D} {r = r} e k h more) =
      runs_then IsTaking now C D E (takes-runs _ s t C D _ (λ b. tt) h) (roots-run n t u D E r more)

  pub snapshot-runs : (s t : Src) (C D : State) (r : Result (Unit {0}) Fault) → TakesSnapshot gives now s C t D r → RunsOn IsTaking now C D
  snapshot-runs s _ C _ _ (session.held e) = stays IsTaking now C
  snapshot-runs s t C D _ (session.due v e h) = takes-runs _ s t C D _ (λ b. tt) h
  snapshot-runs s t C D _ (session.fails v e h) = takes-runs _ s t C D _ (λ b. tt) h

  pub timestamp-runs : (s t : Src) (C D : State) (r : Result (Unit {0}) Fault) → TakesTimestamp gives now s C t D r → RunsOn IsTaking now C D
  timestamp-runs s t C D _ (session.none h) = takes-runs _ s t C D _ (λ b. tt) h
  timestamp-runs s t C D _ (session.fails h) = takes-runs _ s t C D _ (λ b. tt) h
  timestamp-runs s u C E _ (session.then {t = t} {D = D} {r = r} h more) =
      runs_then IsTaking now C D E (takes-runs _ s t C D _ (λ b. tt) h) (snapshot-runs t u D E r more)

  -- the state after an update is that of a run of offers
  pub update-runs : (s t : Src) (C D : State) (r : Result (Unit {0}) Fault) → Updates gives now s C t D r → RunsOn IsTaking now C D
  update-runs s t C D _ (session.fails h) = roots-run _ s t C D _ h
  update-runs s u C E _ (session.then {t = t} {D = D} {r = r} h more) = runs_then IsTaking now C D E (roots-run _ s t C D _ h) (timestamp-runs t u D E r more)

module _ (trusted : Type 0) {Src : Type 0} (gives : Gives Src) (now : ℕ) where
  -- and so is the state after a fetch
  pub fetch-runs : (path : Bytes) (names : Names) (s t : Src) (C D : State) (r : Result Bytes Fault) → Fetches trusted gives now path names s C t D r → RunsOn IsTaking now C D
  fetch-runs path names s _ C _ _ (session.ends (session.granted g)) = stays IsTaking now C
  fetch-runs path names s _ C _ _ (session.ends (session.denied g none_missing)) = stays IsTaking now C
  fetch-runs path names s _ C _ _ (session.ends (session.again g m e)) = stays IsTaking now C
  fetch-runs path names s _ C _ _ (session.ends (session.enough g m e)) = stays IsTaking now C
  fetch-runs path names s t C D _ (session.ends (session.absent {d = d} {w = w} g m e l h)) = takes-runs gives now w s t C D _ (missing-taker d w m) h
  fetch-runs path names s t C D _ (session.ends (session.fails {d = d} {w = w} g m e l h)) = takes-runs gives now w s t C D _ (missing-taker d w m) h
  fetch-runs path names s u C E _ (session.further {t = t} {D = D} {d = d} {w = w} {r = r} g m e l h more) =
      runs_then IsTaking now C D E (takes-runs gives now w s t C D _ (missing-taker d w m) h) (fetch-runs path _ t u D E r more)
  fetch-runs path names s _ C _ _ (session.ends (session.unanswered f)) = stays IsTaking now C

  -- bytes that a fetch answers are granted by the state that it leaves
  pub fetch-granted : trusted → (path : Bytes) (names : Names) (s t : Src) (C D : State) (r : Result Bytes Fault) (b : Bytes) → Fetches trusted gives now path names s C t D r → r ≡ Ok b
      → grants D path None now (Ok b)
  fetch-granted sure path names s _ C _ _ b (session.ends (session.granted {b = a} g)) e = subst (λ x. grants C path None now (Ok x)) (ok-inj a b e) (g sure)
    where
      ok-inj : (a b : Bytes) → ◌≡◌ {A = Result Bytes Fault} (Ok a) (Ok b) → a ≡ b
      ok-inj a b e = cc
  fetch-granted sure path names s _ C _ _ b (session.ends (session.denied g none_missing)) e = absurd cc
  fetch-granted sure path names s _ C _ _ b (session.ends (session.again g m k)) e = absurd cc
  fetch-granted sure path names s _ C _ _ b (session.ends (session.enough g m k)) e = absurd cc
  fetch-granted sure path names s t C D _ b (session.ends (session.absent g m k l h)) e = absurd cc
  fetch-granted sure path names s t C D _ b (session.ends (session.fails g m k l h)) e = absurd cc
  fetch-granted sure path names s u C E _ b (session.further {t = t} {D = D} {r = r} g m k l h more) e = fetch-granted sure path _ t u D E r b more e
  fetch-granted sure path names s _ C _ _ b (session.ends (session.unanswered f)) e = absurd cc
