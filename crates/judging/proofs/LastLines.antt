-- What the last line of an order says of the whole.
use Rattle.std.specs.Prelude.{Bool, Result, Err}
use Rattle.std.proofs.Common.{Ok}
use Rattle.denials.specs.Orders.{Order, pass, ◌>>=◌}
use Rattle.trusted_state.specs.Answers.{Gives, denies, forgoes}
use Rattle.trusted_state.specs.declared.refusal.Refusal.{Refusal}
use Rattle.trusted_state.specs.steps.Judging.{Judges, accepts, keeps, rejects, stops}

-- after a line that gave a value, the order is judged as its rest is
pub judged_behind : {A B : Type 0} {m : Order A} {f : A → Order B} {after : B} (a : A) {r : Result Bool Refusal} → m (Ok a) → Judges (f a) after r → Judges (m >>= f) after r
judged_behind a ok (accepts h) = accepts (pass ok h)
judged_behind a ok (keeps h) = keeps (pass ok h)
judged_behind a ok (rejects h) = rejects (pass ok h)
judged_behind a ok stops = stops

-- an order that gives nothing but its denials
pub rejected_as : {A B : Type 0} {m : Order B} {view : A → B} {after : B} {r : Refusal} → Gives m view (Err r) → Judges m after (Err r)
rejected_as (denies h) = rejects h
rejected_as forgoes = stops
