-- Commands that check no signatures in a search.
use Rattle.std.proofs.Common.{ℕ, refl}
use Rattle.delegations.specs.Verdicts.{Table}
use Rattle.machine.specs.Knowing.{IsKnown}
use Rattle.trust_rules.specs.Runs.{Command, Init, Batch, OfferOne, PutBlob, Prune, Metadata, Target}
use Rattle.trust_rules.specs.State.{Trusted}
use Rattle.machine.proofs.Counting.{counts_nothing}
use Rattle.store.specs.Ticks.{Ticks}

pub no_ticks : (T : Trusted) (command : Command) (now count : ℕ) → (known : Table) × IsKnown T known → Ticks T command now count count
no_ticks T (Target path asked) now count known = (known.0, known.1, counts_nothing T known.0 path now count)
no_ticks T (Init b) now count known = refl
no_ticks T (Batch os) now count known = refl
no_ticks T (OfferOne o b) now count known = refl
no_ticks T (PutBlob digest b) now count known = refl
no_ticks T Prune now count known = refl
no_ticks T (Metadata name) now count known = refl
