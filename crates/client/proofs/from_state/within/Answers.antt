use Rattle.std.proofs.Common.{◌≡◌, ℕ, List, Option, Some, Result, Ok, Err, Vec, Global, refl, sym, subst, arith}
use Rattle.std.specs.Prelude.{IsErrAnd}
use Rattle.fetch.specs.Source.{answered}
use Rattle.fetch.specs.declared.FetchFault.{FetchFault}
use Rattle.fetch.specs.declared.FetchFault.TheVariants.{OutOfMemory}
use Rattle.client.specs.Answering.{IsAnswer, gives, is_longer, lacks_memory}
use Rattle.client.proofs.from_state.within.Goals as goal

pub returns-then-bytes-limit : goal.returns-then-bytes-limit
returns-then-bytes-limit c = is_longer {b = c.args.bytes.now} refl (let long = c.if-bytes-limit.true in omega (arith, long))

memory_only : (limit : ℕ) (Has : Option (List ℕ) → Type 0) (r : Result (Option (Vec ℕ Global)) FetchFault) → IsErrAnd r (λ fault. fault ≡ OutOfMemory) → IsAnswer limit Has (answered r)
memory_only limit Has (Ok found) h = absurd h
memory_only limit Has (Err fault) h = subst (λ (f : FetchFault). IsAnswer limit Has (Err f)) (sym h) lacks_memory

pub returns-in_err-from_slice : goal.returns-in_err-from_slice
returns-in_err-from_slice c = memory_only _ _ c.from_residual.result c.from_residual.ensures.1

pub returns : goal.returns
returns c =
    subst (λ (b : List ℕ). IsAnswer c.args.limit (λ found. found ≡ Some c.args.bytes.now) (Ok (Some b))) (sym c.in_ok-from_slice.ensures.items)
    (gives refl (let short = c.if-bytes-limit.false in omega (arith, short)))
