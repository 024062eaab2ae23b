-- How many signatures a command to a store checks in the searches of a request for a target.
use Rattle.std.specs.Prelude.{◌≡◌, ℕ}
use Rattle.metadata.specs.File.{Bytes}
use Rattle.delegations.specs.Verdicts.{Table}
use Rattle.machine.specs.Knowing.{IsKnown}
use Rattle.trust_rules.specs.Runs.{Command, Target}
use Rattle.machine.specs.Serving.{CountsFew}
use Rattle.trust_rules.specs.State.{Trusted}

-- from the old count to the new one, in a request for a target: counted over some table that is true and complete
abbrev pub TicksFew : Trusted → Bytes → ℕ → ℕ → ℕ → Type 0
TicksFew T path now old new = (known : Table) × IsKnown T known × CountsFew T known path now old new

-- a request for a target, and any other command
abbrev pub Ticks : Trusted → Command → ℕ → ℕ → ℕ → Type 0
Ticks T (Target path asked) now old new = TicksFew T path now old new
Ticks T command now old new = new ≡ old
