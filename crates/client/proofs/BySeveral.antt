-- Turns of a call over several sources, as a store makes them.
use Rattle.std.proofs.Common.{◌≡◌, ℕ, suc, ◌+◌, ◌-◌, ◌<◌, ◌≤◌, Result, subst, arith}
use Rattle.metadata.specs.File.{Bytes, Names}
use Rattle.trust_rules.specs.State.{State}
use Rattle.fetch.specs.Source.{Gives}
use Rattle.store.specs.Standing.{Standing}
use Rattle.client.specs.Changes.{Changes}
use Rattle.client.specs.Session as session
use Rattle.client.specs.Session.{Ends, Fetches}
use Rattle.client.specs.Several.{InTurn, Told, Turns, ends, goes, over, together}
use Rattle.client.specs.Views.{Fault}
use Rattle.client.proofs.Composing.{becomes, follows, rests}

-- what is said of a fetch where less is trusted
pub trusts_less : (P Q : Type 0) → (Q → P) → {Src : Type 0} (gives : Gives Src) (now : ℕ) (path : Bytes) (names : Names) (s t : Src) (C D : State) (r : Result Bytes Fault)
    → Fetches P gives now path names s C t D r → Fetches Q gives now path names s C t D r
trusts_less P Q f gives now path names s _ C _ _ (session.ends (session.granted g)) = session.ends (session.granted (λ q. g (f q)))
trusts_less P Q f gives now path names s _ C _ _ (session.ends (session.denied g none_missing)) = session.ends (session.denied (λ known. g (λ by has. f (known by has))) none_missing)
trusts_less P Q f gives now path names s _ C _ _ (session.ends (session.again g m e)) = session.ends (session.again g m e)
trusts_less P Q f gives now path names s _ C _ _ (session.ends (session.enough g m e)) = session.ends (session.enough g m e)
trusts_less P Q f gives now path names s t C D _ (session.ends (session.absent g m e l h)) = session.ends (session.absent g m e l h)
trusts_less P Q f gives now path names s t C D _ (session.ends (session.fails g m e l h)) = session.ends (session.fails g m e l h)
trusts_less P Q f gives now path names s u C E r (session.further {t = t} {D = D} g m e l h more) = session.further g m e l h (trusts_less P Q f gives now path _ t u D E r more)
trusts_less P Q f gives now path names s _ C _ _ (session.ends (session.unanswered k)) = session.ends (session.unanswered k)

module _ {Src A : Type 0} (turns tells : Turns Src) (Call : Src → State → Src → State → Result A Fault → Type 0) (IsEnd : Result A Fault → Type 0) where
  abbrev Turn : ℕ → ℕ → Result A Fault → Src → State → Src → State → Result A Fault → Type 0
  Turn = InTurn turns tells Call IsEnd

  -- the last of the turns
  pub turn_ends : (X Y : Standing) (s t u : Src) (so_far r : Result A Fault) (count place : ℕ) → place < count → turns s place t → IsEnd r
      → Changes X Y (λ C D. Call t C u D r) → Changes X Y (λ C D. Turn place (count - place) so_far s C u D r)
  turn_ends X Y s t u so_far r count place below turn end h =
      let left : suc (count - (place + 1)) ≡ count - place = omega (arith, below) in
      becomes _ _ h (λ C D call. subst (λ n. Turn place n so_far s C u D r) left (ends turn call end))

  -- one that goes on
  pub turn_goes : (X Y Z : Standing) (s t u w v : Src) (so_far r both q : Result A Fault) (count place : ℕ) → place < count → turns s place t → (IsEnd r → ⊥) → Told tells place r u w → both ≡ together so_far r
      → Changes X Y (λ C D. Call t C u D r) → Changes Y Z (λ C D. Turn (place + 1) (count - (place + 1)) both w C v D q) → Changes X Z (λ C D. Turn place (count - place) so_far s C v D q)
  turn_goes X Y Z s t u w v so_far r both q count place below turn not told same h rest =
      let left : suc (count - (place + 1)) ≡ count - place = omega (arith, below) in
      let next : place + 1 ≡ suc place = omega arith in
      follows _ _ _ h rest (λ C D F call more. subst (λ n. Turn place n so_far s C v F q) left
      (goes turn call not told (subst (λ p. Turn p (count - (place + 1)) (together so_far r) w D v F q) next (subst (λ b. Turn (place + 1) (count - (place + 1)) b w D v F q) same more))))

  -- all are over
  pub turns_over : (X : Standing) (s : Src) (so_far : Result A Fault) (count place : ℕ) → count ≤ place → Changes X X (λ C D. Turn place (count - place) so_far s C s D so_far)
  turns_over X s so_far count place above =
      let none : 0 ≡ count - place = omega (arith, above) in
      rests X _ (λ S at. subst (λ n. Turn place n so_far s S s S so_far) none over)

  -- the first of them
  pub from_first : (X Y : Standing) (s v : Src) (so_far q : Result A Fault) (count : ℕ) → Changes X Y (λ C D. Turn 0 (count - 0) so_far s C v D q) → Changes X Y (λ C D. Turn 0 count so_far s C v D q)
  from_first X Y s v so_far q count h =
      let all : count - 0 ≡ count = omega arith in
      becomes _ _ h (λ C D k. subst (λ n. Turn 0 n so_far s C v D q) all k)
