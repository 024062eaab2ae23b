-- What a client's state is after its calls: commands made one after the other at one moment, each an offer or an upload.
use Rattle.std.specs.Prelude.{ℕ, List, map, ⊤}
use Rattle.std.specs.List.{AllByRecursion}
use Rattle.trust_rules.specs.State.{State}
use Rattle.trust_rules.specs.Runs.{Command, OfferOne, PutBlob, Reply, Runs}

-- an offer of one document, or an upload
abbrev pub IsTaking : Command → Type 0
IsTaking (OfferOne offer b) = ⊤
IsTaking (PutBlob digest b) = ⊤
IsTaking command = ⊥

-- the second state is that of a run of such commands from the first, all at one moment
pub record RunsOn (Is : Command → Type 0) (now : ℕ) (C D : State) : Type 0 where
  pub commands : List Command
  pub replies : List Reply
  pub each : AllByRecursion Is commands
  pub runs : Runs C (map (λ command. (command, now)) commands) D replies
