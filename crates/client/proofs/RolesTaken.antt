-- Targets metadata that a snapshot lists are offers.
use Rattle.std.proofs.Common.{◌≡◌, ℕ, Bool, List, Result, subst}
use Rattle.trust_rules.specs.State.{State}
use Rattle.store.specs.Standing.{Standing}
use Rattle.fetch.specs.Source.{Gives}
use Rattle.client.specs.Changes.{Changes}
use Rattle.client.specs.Session.{Takes}
use Rattle.client.specs.Taken.{IsTaking, RunsOn}
use Rattle.client.specs.Views.{Fault}
use Rattle.client.specs.Wanted.{Wanted, wanted_row}
use Rattle.client.proofs.Composing.{follows, rests}
use Rattle.client.proofs.Runs.{runs_then, stays, takes-runs}

-- whatever becomes of such a file, the state is that of a run of offers
pub row_runs : {Src : Type 0} (gives : Gives Src) (now : ℕ) (w : Wanted) (role : List ℕ) (version : ℕ) (s t : Src) (C D : State) (r : Result Bool Fault)
    → w ≡ wanted_row role version → Takes gives now w s C t D r → RunsOn IsTaking now C D
row_runs gives now w role version s t C D r is took =
    takes-runs gives now (wanted_row role version) s t C D r (λ b. tt) (subst (λ v. Takes gives now v s C t D r) is took)

-- no call, and one after another
pub none_yet : (now : ℕ) (A : Standing) → Changes A A (λ C D. RunsOn IsTaking now C D)
none_yet now A = rests A _ (λ S at. stays IsTaking now S)

pub and_then : (now : ℕ) (A B E : Standing) → Changes A B (λ C D. RunsOn IsTaking now C D) → Changes B E (λ C D. RunsOn IsTaking now C D) → Changes A E (λ C D. RunsOn IsTaking now C D)
and_then now A B E h k = follows _ _ _ h k (λ C D F p q. runs_then IsTaking now C D F p q)
