-- How a whole call over an honest source ends, whatever the client's state was: no answer was one that cannot be read, and a denial is one of
-- the state that is left.
use Rattle.std.proofs.Common.{◌≡◌, ◌≢◌, ◌⊎◌, inl, inr, ℕ, Bool, true, false, [], Option, Some, None, Result, Ok, Err, refl, sym, subst}
use Rattle.metadata.specs.File.{Bytes, Names}
use Rattle.denials.specs.Orders as orders
use Rattle.trust_rules.proofs.GrantsEnd.{refusals_keep}
use Rattle.trust_rules.specs.State.{State}
use Rattle.trust_rules.specs.Runs.{Command, Refused, Steps}
use Rattle.fetch.specs.Source.{Answer, Gives}
use Rattle.fetch.specs.declared.FetchFault.{FetchFault}
use Rattle.fetch.specs.declared.FetchFault.TheVariants as fetches
use Rattle.client.specs.Agreement.{Brings, BringsAndFetches, IsFileOf, IsOwnDenial}
use Rattle.client.specs.Agreement as agreement
use Rattle.client.specs.Answering as answering
use Rattle.client.specs.Answering.{IsAnswer, IsHeldAs, IsHonest}
use Rattle.client.specs.Session as session
use Rattle.client.specs.Session.{Fetches, IsUnmade, Makes, Takes, TakesRoots, TakesSnapshot, TakesTimestamp, Updates}
use Rattle.client.specs.Views as views
use Rattle.client.specs.Views.{Fault}
use Rattle.client.specs.Wanted.{Misses, Wanted}
use Rattle.client.proofs.FilesRun.{Granted, IsFile, brings_run, missing_file, takes_is}

-- ---- no answer that cannot be read

abbrev IsRead : Fault → Type 0
IsRead (views.Fetch fault) = fault ≢ fetches.Broken
IsRead (views.Denied d) = Unit {0}
IsRead views.Database = Unit {0}
IsRead views.OutOfMemory = Unit {0}

abbrev AllRead : {A : Type 0} → Result A Fault → Type 0
AllRead (Ok a) = Unit {0}
AllRead (Err fault) = IsRead fault

unmade_read : (fault : Fault) → IsUnmade fault → IsRead fault
unmade_read views.Database h = tt
unmade_read views.OutOfMemory h = tt
unmade_read (views.Fetch fault) h = absurd h
unmade_read (views.Denied d) h = absurd h

made_read : (now : ℕ) (command : Command) (C D : State) (r : Result (Unit {0}) Fault) → Makes now command C D r → AllRead r
made_read now command C D _ (session.accepted reply h ok) = tt
made_read now command C D _ (session.denied index h) = tt
made_read now command C _ _ (session.unmade {fault = fault} f) = unmade_read fault f

long_read : fetches.TooLong ≢ fetches.Broken
long_read e = cc

want_read : fetches.OutOfMemory ≢ fetches.Broken
want_read e = cc

-- the answer as a whole is what is taken apart
abbrev IsReadAnswer : Answer → Type 0
IsReadAnswer (Ok file) = Unit {0}
IsReadAnswer (Err fault) = fault ≢ fetches.Broken

answer_read : (limit : ℕ) (Has : Option Bytes → Type 0) (answer : Answer) → IsAnswer limit Has answer → IsReadAnswer answer
answer_read limit Has _ (answering.gives h short) = tt
answer_read limit Has _ (answering.has_none h) = tt
answer_read limit Has _ (answering.is_longer h long) = long_read
answer_read limit Has _ answering.lacks_memory = want_read

read_fetched : {A : Type 0} (r : Result A Fault) (fault : FetchFault) → AllRead r → r ≡ Err (views.Fetch fault) → fault ≢ fetches.Broken
read_fetched (Ok a) fault h e = absurd cc
read_fetched (Err (views.Denied d)) fault h e = absurd cc
read_fetched (Err views.Database) fault h e = absurd cc
read_fetched (Err views.OutOfMemory) fault h e = absurd cc
read_fetched {A = A} (Err (views.Fetch other)) fault h e = subst (λ (f : FetchFault). f ≢ fetches.Broken) (same other fault e) h
  where
    same : (f g : FetchFault) → ◌≡◌ {A = Result A Fault} (Err (views.Fetch f)) (Err (views.Fetch g)) → f ≡ g
    same f g k = cc

-- ---- denials

-- a file that is not there leaves the state
none_keeps : {Src : Type 0} (from : Gives Src) (now : ℕ) (w : Wanted) (s t : Src) (C D : State) (r : Result Bool Fault) → Takes from now w s C t D r → r ≡ Ok false → D ≡ C
none_keeps from now w s t C D _ (session.taken g short m) e = absurd cc
none_keeps from now w s t C D _ (session.rejected g short m) e = absurd cc
none_keeps from now w s t C _ _ (session.absent g) e = refl
none_keeps from now w s t C _ _ (session.overlong g long) e = absurd cc
none_keeps from now w s t C _ _ (session.failed g) e = absurd cc
none_keeps from now w s _ C _ _ session.unasked e = absurd cc

-- a command that was denied is denied so by the state that is left
abbrev DeniesIt : ℕ → Command → State → orders.Denial → Type 0
DeniesIt now command D d = (index : Option ℕ) × Steps D command now (D, Refused d index)

made_denies : (now : ℕ) (command : Command) (C D : State) (r : Result (Unit {0}) Fault) (d : orders.Denial) → Makes now command C D r → r ≡ Err (views.Denied d) → DeniesIt now command D d
made_denies now command C D _ d (session.accepted reply h ok) e = absurd cc
made_denies now command C D _ d (session.denied {d = c} index h) e =
    let is = refusals_keep C D command now c index h in
    (index, subst (λ (x : orders.Denial). Steps D command now (D, Refused x index)) (same c d e) (subst (λ (X : State). Steps X command now (D, Refused c index)) (sym is) h))
  where
    same : (c d : orders.Denial) → ◌≡◌ {A = Result (Unit {0}) Fault} (Err (views.Denied c)) (Err (views.Denied d)) → c ≡ d
    same c d k = cc
made_denies now command C _ _ d (session.unmade {fault = fault} f) e = absurd (none fault d f e)
  where
    none : (fault : Fault) (d : orders.Denial) → IsUnmade fault → ◌≡◌ {A = Result (Unit {0}) Fault} (Err fault) (Err (views.Denied d)) → ⊥
    none views.Database d h k = cc
    none views.OutOfMemory d h k = cc
    none (views.Fetch x) d h k = h
    none (views.Denied c) d h k = h

module _ (law : Granted) {Src : Type 0} (from : Gives Src) (Is : Src → Type 0) (S : State) (now : ℕ) (honest : IsHonest from Is S now) where
  takes_read : (w : Wanted) (s t : Src) (C D : State) (r : Result Bool Fault) → Is s → Takes from now w s C t D r → AllRead r
  takes_read w s t C D _ is (session.taken g short m) = tt
  takes_read w s t C D _ is (session.rejected {b = b} g short m) = made_read now (w.command b) C D _ m
  takes_read w s t C _ _ is (session.absent g) = tt
  takes_read w s t C _ _ is (session.overlong g long) = long_read
  takes_read w s t C _ _ is (session.failed {fault = fault} g) = answer_read w.limit (IsHeldAs S now w.name) (Err fault) (honest.answers s t _ _ (Err fault) is g)
  takes_read w s _ C _ _ is session.unasked = tt

  -- what is taken goes on to an honest source
  next : (w : Wanted) (s t : Src) (C D : State) (r : Result Bool Fault) → Is s → Takes from now w s C t D r → Is t
  next w s t C D r is h = takes_is law from Is S now honest w s t C D r is h

  roots_read : (n : ℕ) (s t : Src) (C D : State) (r : Result (Unit {0}) Fault) → Is s → TakesRoots from now n s C t D r → AllRead r
  roots_read _ s _ C _ _ is session.enough = tt
  roots_read _ s _ C _ _ is (session.rootless e) = tt
  roots_read _ s _ C _ _ is (session.highest e k) = tt
  roots_read _ s t C D _ is (session.newest e k h) = tt
  roots_read _ s t C D _ is (session.stops e k h) = takes_read _ s t C D _ is h
  roots_read _ s u C E _ is (session.further {n = n} {t = t} {D = D} {r = r} e k h more) = roots_read n t u D E r (next _ s t C D _ is h) more

  roots_is : (n : ℕ) (s t : Src) (C D : State) (r : Result (Unit {0}) Fault) → Is s → TakesRoots from now n s C t D r → Is t
  roots_is _ s _ C _ _ is session.enough = is
  roots_is _ s _ C _ _ is (session.rootless e) = is
  roots_is _ s _ C _ _ is (session.highest e k) = is
  roots_is _ s t C D _ is (session.newest e k h) = next _ s t C D _ is h
  roots_is _ s t C D _ is (session.stops e k h) = next _ s t C D _ is h
  roots_is _ s u C E _ is (session.further {n = n} {t = t} {D = D} {r = r} e k h more) = roots_is n t u D E r (next _ s t C D _ is h) more

  snapshot_read : (s t : Src) (C D : State) (r : Result (Unit {0}) Fault) → Is s → TakesSnapshot from now s C t D r → AllRead r
  snapshot_read s _ C _ _ is (session.held e) = tt
  snapshot_read s t C D _ is (session.due v e h) = tt
  snapshot_read s t C D _ is (session.fails v e h) = takes_read _ s t C D _ is h

  timestamp_read : (s t : Src) (C D : State) (r : Result (Unit {0}) Fault) → Is s → TakesTimestamp from now s C t D r → AllRead r
  timestamp_read s t C D _ is (session.none h) = tt
  timestamp_read s t C D _ is (session.fails h) = takes_read _ s t C D _ is h
  timestamp_read s u C E _ is (session.then {t = t} {D = D} {r = r} h more) = snapshot_read t u D E r (next _ s t C D _ is h) more

  update_read : (s t : Src) (C D : State) (r : Result (Unit {0}) Fault) → Is s → Updates from now s C t D r → AllRead r
  update_read s t C D _ is (session.fails h) = roots_read _ s t C D _ is h
  update_read s u C E _ is (session.then {t = t} {D = D} {r = r} h more) = timestamp_read t u D E r (roots_is _ s t C D _ is h) more

  fetch_read : (trusted : Type 0) (path : Bytes) (names : Names) (s t : Src) (C D : State) (r : Result Bytes Fault) → Is s → Fetches trusted from now path names s C t D r → AllRead r
  fetch_read trusted path names s _ C _ _ is (session.ends (session.granted g)) = tt
  fetch_read trusted path names s _ C _ _ is (session.ends (session.denied g none_missing)) = tt
  fetch_read trusted path names s _ C _ _ is (session.ends (session.again g m e)) = tt
  fetch_read trusted path names s _ C _ _ is (session.ends (session.enough g m e)) = tt
  fetch_read trusted path names s t C D _ is (session.ends (session.absent g m e l h)) = tt
  fetch_read trusted path names s t C D _ is (session.ends (session.fails {w = w} g m e l h)) = takes_read w s t C D _ is h
  fetch_read trusted path names s u C E _ is (session.further {t = t} {D = D} {w = w} {r = r} g m e l h more) = fetch_read trusted path _ t u D E r (next w s t C D _ is h) more
  fetch_read trusted path names s _ C _ _ is (session.ends (session.unanswered {fault = fault} f)) = unmade_read fault f

  brings_read : (s t : Src) (C D : State) (r : Result (Unit {0}) Fault) → Is s → Brings from now s C t D r → AllRead r
  brings_read s t C D _ is (agreement.updated h) = tt
  brings_read s t C D _ is (agreement.denied h) = tt
  brings_read s t C D _ is (agreement.fails h other) = update_read s t C D _ is h

  whole_read : (trusted : Type 0) (path : Bytes) (s t : Src) (C D : State) (r : Result Bytes Fault) → Is s → BringsAndFetches trusted from now path s C t D r → AllRead r
  whole_read trusted path s u C E r is (agreement.then {t = t} {D = D} h more) =
      let first = brings_run law from Is S now honest s t C D _ is h in
      fetch_read trusted path [] t u D E r first.1 more
  whole_read trusted path s t C D _ is (agreement.fails h) = brings_read s t C D _ is h

  -- no fault of the source is an answer that cannot be read
  pub unbroken : (trusted : Type 0) (path : Bytes) (s t : Src) (C D : State) (r : Result Bytes Fault) → Is s → BringsAndFetches trusted from now path s C t D r
      → (fault : FetchFault) → r ≡ Err (views.Fetch fault) → fault ≢ fetches.Broken
  unbroken trusted path s t C D r is h fault e = read_fetched r fault (whole_read trusted path s t C D r is h) e

  -- a file that was denied is a file of the server
  takes_deny : (w : Wanted) (s t : Src) (C D : State) (r : Result Bool Fault) (d : orders.Denial) → IsFile law from Is S now honest w → Is s → Takes from now w s C t D r → r ≡ Err (views.Denied d)
      → (command : Command) × (index : Option ℕ) × IsFileOf S command × Steps D command now (D, Refused d index)
  takes_deny w s t C D _ d file is (session.taken g short m) e = absurd cc
  takes_deny w s t C D _ d file is (session.rejected {b = b} {fault = fault} g short m) e =
      let k = made_denies now (w.command b) C D _ d m (whose fault d e) in
      (w.command b, k.0, file s t b is g, k.1)
    where
      whose : (fault : Fault) (d : orders.Denial) → ◌≡◌ {A = Result Bool Fault} (Err fault) (Err (views.Denied d)) → ◌≡◌ {A = Result (Unit {0}) Fault} (Err fault) (Err (views.Denied d))
      whose fault d k = cc
  takes_deny w s t C _ _ d file is (session.absent g) e = absurd cc
  takes_deny w s t C _ _ d file is (session.overlong g long) e = absurd cc
  takes_deny w s t C _ _ d file is (session.failed g) e = absurd cc
  takes_deny w s _ C _ _ d file is session.unasked e = absurd cc

  abbrev IsOwn : Bytes → State → Result Bytes Fault → Type 0
  IsOwn path D r = (d : orders.Denial) → r ≡ Err (views.Denied d) → IsOwnDenial S D path now d

  -- the state denies the target
  own : (path : Bytes) (D : State) (c : orders.Denial) → session.DeniesAt D path now c → IsOwn path D (Err (views.Denied c))
  own path D c h d e = inl (subst (λ (x : orders.Denial). session.DeniesAt D path now x) (same c d e) h)
    where
      same : (c d : orders.Denial) → ◌≡◌ {A = Result Bytes Fault} (Err (views.Denied c)) (Err (views.Denied d)) → c ≡ d
      same c d k = cc

  -- bytes are no denial, nor is a command that was not made
  granted_own : (path : Bytes) (D : State) (b : Bytes) → IsOwn path D (Ok b)
  granted_own path D b d e = absurd cc

  unmade_own : (path : Bytes) (D : State) (fault : Fault) → IsUnmade fault → IsOwn path D (Err fault)
  unmade_own path D views.Database h d e = absurd cc
  unmade_own path D views.OutOfMemory h d e = absurd cc
  unmade_own path D (views.Fetch x) h d e = absurd h
  unmade_own path D (views.Denied c) h d e = absurd h

  -- a file that was not taken
  fails_own : (path : Bytes) (c : orders.Denial) (w : Wanted) (s t : Src) (C D : State) (fault : Fault) → Misses c w → Is s → Takes from now w s C t D (Err fault) → IsOwn path D (Err fault)
  fails_own path c w s t C D fault misses is h d e = inr (takes_deny w s t C D (Err fault) d (missing_file law from Is S now honest c w misses) is h (whose fault d e))
    where
      whose : (fault : Fault) (d : orders.Denial) → ◌≡◌ {A = Result Bytes Fault} (Err fault) (Err (views.Denied d)) → ◌≡◌ {A = Result Bool Fault} (Err fault) (Err (views.Denied d))
      whose fault d k = cc

  -- an update that ends the call ends it by no denial
  stopped_own : (path : Bytes) (D : State) (fault : Fault) → ((d : orders.Denial) → fault ≢ views.Denied d) → IsOwn path D (Err fault)
  stopped_own path D fault other d e = absurd (other d (same fault d e))
    where
      same : (fault : Fault) (d : orders.Denial) → ◌≡◌ {A = Result Bytes Fault} (Err fault) (Err (views.Denied d)) → fault ≡ views.Denied d
      same fault d k = cc

  module _ (trusted : Type 0) (trust : trusted) (path : Bytes) where
    fetch_own : (names : Names) (s t : Src) (C D : State) (r : Result Bytes Fault) → Is s → Fetches trusted from now path names s C t D r → IsOwn path D r
    fetch_own names s _ C _ _ is (session.ends (session.granted {b = b} g)) = granted_own path C b
    fetch_own names s _ C _ _ is (session.ends (session.denied {d = c} g none_missing)) = own path C c (g (λ by has. trust))
    fetch_own names s _ C _ _ is (session.ends (session.again {d = c} g m e)) = own path C c g
    fetch_own names s _ C _ _ is (session.ends (session.enough {d = c} g m e)) = own path C c g
    fetch_own names s t C D _ is (session.ends (session.absent {d = c} {w = w} g m e l h)) =
        own path D c (subst (λ (X : State). session.DeniesAt X path now c) (sym (none_keeps from now w s t C D _ h refl)) g)
    fetch_own names s t C D _ is (session.ends (session.fails {d = c} {w = w} {fault = fault} g m e l h)) = fails_own path c w s t C D fault m is h
    fetch_own names s u C E _ is (session.further {t = t} {D = D} {w = w} {r = r} g m e l h more) = fetch_own _ t u D E r (next w s t C D _ is h) more
    fetch_own names s _ C _ _ is (session.ends (session.unanswered {fault = fault} f)) = unmade_own path C fault f

    -- a denial is one of the state that is left
    pub own_denial : (s t : Src) (C D : State) (r : Result Bytes Fault) → Is s → BringsAndFetches trusted from now path s C t D r → IsOwn path D r
    own_denial s u C E r is (agreement.then {t = t} {D = D} h more) =
        let first = brings_run law from Is S now honest s t C D _ is h in
        fetch_own [] t u D E r first.1 more
    own_denial s t C D _ is (agreement.fails {fault = fault} (agreement.fails h other)) = stopped_own path D fault other
