-- What an update and a fetch ask of a source.
use Rattle.std.proofs.Common.{◌≡◌, ◌⊎◌, inl, inr, ℕ, suc, ◌+◌, ◌<◌, ◌≤◌, Bool, true, false, ◌||◌, List, [], ◌∷◌, ◌++◌, map, length, Result, refl, sym, ap, subst, ◌∙◌, arith, length-append}
use Rattle.std.specs.Prelude.{bytes_eq}
use Rattle.std.specs.List.{AllByRecursion}
use Rattle.std.proofs.lemmas.List.Folds.{list_any-append}
use Rattle.std.proofs.lemmas.Slice.Eq.{bytes_eq-Decides}
use Rattle.metadata.specs.File.{Bytes, Names, has_name}
use Rattle.trust_rules.specs.State.{State}
use Rattle.fetch.specs.Source.{Gives, Asked, none, one}
use Rattle.client.specs.Asking.{AreDistinct, AsksAtMost, AsksOnce}
use Rattle.client.specs.Session as session
use Rattle.client.specs.Session.{Takes, TakesRoots, TakesSnapshot, TakesTimestamp, Updates, Fetches}
use Rattle.client.specs.Views.{Fault}
use Rattle.client.specs.Wanted.{Wanted}

-- ---- distinct names

or-left : (a b : Bool) → (a || b) ≡ false → a ≡ false
or-left false b h = refl
or-left true b h = h

or-right : (a b : Bool) → (a || b) ≡ false → b ≡ false
or-right false b h = h
or-right true b h = absurd cc

no-bool : (b : Bool) → (b ≡ true → ⊥) → b ≡ false
no-bool false h = refl
no-bool true h = absurd (h refl)

eq-turned : (a b : Bytes) → bytes_eq a b ≡ false → bytes_eq b a ≡ false
eq-turned a b h = no-bool (bytes_eq b a) (λ k. let e : a ≡ b = sym ((bytes_eq-Decides b a).0 k) in let t = (bytes_eq-Decides a b).1 e in absurd cc)

-- none of the names asked for is among these
abbrev AreNew : Names → List (Bytes × ℕ) → Type 0
AreNew names asks = AllByRecursion (λ a. has_name names a.0 ≡ false) asks

new-left : (names more : Names) (asks : List (Bytes × ℕ)) → AreNew (names ++ more) asks → AreNew names asks
new-left names more [] h = tt
new-left names more (a ∷ asks) h =
    (or-left _ _ (sym (list_any-append (λ n. bytes_eq n a.0) names more) ∙ h.0), new-left names more asks h.1)

new-last : (names : Names) (name : Bytes) (asks : List (Bytes × ℕ)) → AreNew (names ++ name ∷ []) asks → has_name (map (λ a. a.0) asks) name ≡ false
new-last names name [] h = refl
new-last names name (a ∷ asks) h =
    let apart : (bytes_eq name a.0 || false) ≡ false = or-right _ _ (sym (list_any-append (λ n. bytes_eq n a.0) names (name ∷ [])) ∙ h.0) in
    ap (λ b. b || has_name (map (λ a. a.0) asks) name) (eq-turned name a.0 (or-left _ _ apart)) ∙ new-last names name asks h.1

-- ---- one after the other

module _ {Src : Type 0} (gives : Gives Src) where
  pub asked-append : (s t u : Src) (a b : List (Bytes × ℕ)) → Asked gives s a t → Asked gives t b u → Asked gives s (a ++ b) u
  asked-append s _ u _ b none k = k
  asked-append s t u _ b (one {t = v} {more = more} g h) k = one g (asked-append v t u more b h k)

  at-most : (m n k : ℕ) (s t u : Src) → m + n ≤ k → AsksAtMost gives m s t → AsksAtMost gives n t u → AsksAtMost gives k s u
  at-most m n k s t u fits a b = record {
    list = a.list ++ b.list;
    asked = asked-append s t u a.list b.list a.asked b.asked;
    few = omega (arith, length-append a.list b.list, a.few, b.few);
  }

  none-asked : (n : ℕ) (s : Src) → AsksAtMost gives n s s
  none-asked n s = record { list = []; asked = none; few = omega arith }

  more-room : (m n : ℕ) (s t : Src) → m ≤ n → AsksAtMost gives m s t → AsksAtMost gives n s t
  more-room m n s t fits a = record { list = a.list; asked = a.asked; few = omega (arith, a.few) }

  module _ (now : ℕ) where
    -- one file is asked for once, or not at all
    takes-asks : (w : Wanted) (s t : Src) (C D : State) (r : Result Bool Fault) → Takes gives now w s C t D r → Asked gives s ((w.name, w.limit) ∷ []) t ⊎ (t ≡ s)
    takes-asks w s t C D _ (session.taken h short m) = inl (one h none)
    takes-asks w s t C D _ (session.rejected h short m) = inl (one h none)
    takes-asks w s t C _ _ (session.absent h) = inl (one h none)
    takes-asks w s t C _ _ (session.overlong h long) = inl (one h none)
    takes-asks w s t C _ _ (session.failed h) = inl (one h none)
    takes-asks w s _ C _ _ session.unasked = inr refl

    once : (w : Wanted) (s t : Src) → Asked gives s ((w.name, w.limit) ∷ []) t ⊎ (t ≡ s) → AsksAtMost gives 1 s t
    once w s t (inl h) = record { list = (w.name, w.limit) ∷ []; asked = h; few = omega arith }
    once w s t (inr e) = subst (AsksAtMost gives 1 s) (sym e) (none-asked 1 s)

    take-asks : (w : Wanted) (s t : Src) (C D : State) (r : Result Bool Fault) → Takes gives now w s C t D r → AsksAtMost gives 1 s t
    take-asks w s t C D r h = once w s t (takes-asks w s t C D r h)

    roots-ask : (n : ℕ) (s t : Src) (C D : State) (r : Result (Unit {0}) Fault) → TakesRoots gives now n s C t D r → AsksAtMost gives n s t
    roots-ask n s _ C _ _ session.enough = none-asked n s
    roots-ask n s _ C _ _ (session.rootless e) = none-asked n s
    roots-ask n s _ C _ _ (session.highest e k) = none-asked n s
    roots-ask n s t C D _ (session.newest {n = m} e k h) = more-room 1 (suc m) s t (omega arith) (take-asks _ s t C D _ h)
    roots-ask n s t C D _ (session.stops {n = m} e k h) = more-room 1 (suc m) s t (omega arith) (take-asks _ s t C D _ h)
    roots-ask n s u C E _ (session.further {n = m} {t = t} {D = D} {r = r} e k h more) =
        at-most 1 m (suc m) s t u (omega arith) (take-asks _ s t C D _ h) (roots-ask m t u D E r more)

    snapshot-asks : (s t : Src) (C D : State) (r : Result (Unit {0}) Fault) → TakesSnapshot gives now s C t D r → AsksAtMost gives 1 s t
    snapshot-asks s _ C _ _ (session.held e) = none-asked 1 s
    snapshot-asks s t C D _ (session.due v e h) = take-asks _ s t C D _ h
    snapshot-asks s t C D _ (session.fails v e h) = take-asks _ s t C D _ h

    timestamp-asks : (s t : Src) (C D : State) (r : Result (Unit {0}) Fault) → TakesTimestamp gives now s C t D r → AsksAtMost gives 2 s t
    timestamp-asks s t C D _ (session.none h) = more-room 1 2 s t (omega arith) (take-asks _ s t C D _ h)
    timestamp-asks s t C D _ (session.fails h) = more-room 1 2 s t (omega arith) (take-asks _ s t C D _ h)
    timestamp-asks s u C E _ (session.then {t = t} {D = D} {r = r} h more) =
        at-most 1 1 2 s t u (omega arith) (take-asks _ s t C D _ h) (snapshot-asks t u D E r more)

    pub update-asks : (s t : Src) (C D : State) (r : Result (Unit {0}) Fault) → Updates gives now s C t D r → AsksAtMost gives 66 s t
    update-asks s t C D _ (session.fails h) = more-room 64 66 s t (omega arith) (roots-ask _ s t C D _ h)
    update-asks s u C E _ (session.then {t = t} {D = D} {r = r} h more) =
        at-most 64 2 66 s t u (omega arith) (roots-ask _ s t C D _ h) (timestamp-asks t u D E r more)

    -- ---- a fetch

    -- names that are new after these, and each once
    record AsksNew (names : Names) (s t : Src) : Type 0 where
      list : List (Bytes × ℕ)
      asked : Asked gives s list t
      few : length names + length list ≤ 194
      distinct : AreDistinct (map (λ a. a.0) list)
      new : AreNew names list

    nothing-new : (names : Names) (s : Src) → length names ≤ 194 → AsksNew names s s
    nothing-new names s few = record { list = []; asked = none; few = omega (arith, few); distinct = tt; new = tt }

    one-new : (names : Names) (w : Wanted) (s t : Src) → has_name names w.name ≡ false → length names < 194
        → Asked gives s ((w.name, w.limit) ∷ []) t ⊎ (t ≡ s) → AsksNew names s t
    one-new names w s t fresh few (inl h) =
        record { list = (w.name, w.limit) ∷ []; asked = h; few = omega (arith, few); distinct = (refl, tt); new = (fresh, tt) }
    one-new names w s t fresh few (inr e) = subst (AsksNew names s) (sym e) (nothing-new names s (omega (arith, few)))

    then-new : (names : Names) (w : Wanted) (s t u : Src) → has_name names w.name ≡ false
        → Asked gives s ((w.name, w.limit) ∷ []) t ⊎ (t ≡ s) → AsksNew (names ++ w.name ∷ []) t u → AsksNew names s u
    then-new names w s t u fresh (inl h) k = record {
      list = (w.name, w.limit) ∷ k.list;
      asked = asked-append s t u ((w.name, w.limit) ∷ []) k.list h k.asked;
      few = omega (arith, k.few, length-append names (w.name ∷ []));
      distinct = (new-last names w.name k.list k.new, k.distinct);
      new = (fresh, new-left names (w.name ∷ []) k.list k.new);
    }
    then-new names w s t u fresh (inr e) k = record {
      list = k.list;
      asked = subst (λ x. Asked gives x k.list u) e k.asked;
      few = omega (arith, k.few, length-append names (w.name ∷ []));
      distinct = k.distinct;
      new = new-left names (w.name ∷ []) k.list k.new;
    }

    fetch-new : (trusted : Type 0) (path : Bytes) (names : Names) (s t : Src) (C D : State) (r : Result Bytes Fault) → Fetches trusted gives now path names s C t D r
        → length names ≤ 194 → AsksNew names s t
    fetch-new trusted path names s _ C _ _ (session.ends (session.granted g)) few = nothing-new names s few
    fetch-new trusted path names s _ C _ _ (session.ends (session.denied g m)) few = nothing-new names s few
    fetch-new trusted path names s _ C _ _ (session.ends (session.again g m e)) few = nothing-new names s few
    fetch-new trusted path names s _ C _ _ (session.ends (session.enough g m e)) few = nothing-new names s few
    fetch-new trusted path names s t C D _ (session.ends (session.absent {w = w} g m e l h)) few = one-new names w s t e l (takes-asks w s t C D _ h)
    fetch-new trusted path names s t C D _ (session.ends (session.fails {w = w} g m e l h)) few = one-new names w s t e l (takes-asks w s t C D _ h)
    fetch-new trusted path names s u C E _ (session.further {t = t} {D = D} {w = w} {r = r} g m e l h more) few =
        then-new names w s t u e (takes-asks w s t C D _ h)
        (fetch-new trusted path (names ++ w.name ∷ []) t u D E r more (omega (arith, l, length-append names (w.name ∷ []))))
    fetch-new trusted path names s _ C _ _ (session.ends (session.unanswered f)) few = nothing-new names s few

    pub fetch-asks : (trusted : Type 0) (path : Bytes) (s t : Src) (C D : State) (r : Result Bytes Fault) → Fetches trusted gives now path [] s C t D r → AsksOnce gives 194 s t
    fetch-asks trusted path s t C D r h =
        let k = fetch-new trusted path [] s t C D r h (omega arith) in record { list = k.list; asked = k.asked; few = omega (arith, k.few); distinct = k.distinct }
