-- Readers and writers that do not fail.
use Rattle.std.specs.Prelude.{◌≡◌, ℕ, ◌<◌, List, length, Bool, true, Result, Ok, Err, ⊤}
use Rattle.http_messages.specs.declared.line.ReceiveFault.{ReceiveFault}
use Rattle.http_messages.specs.declared.line.ReceiveFault.TheVariants.{Read, OutOfMemory}

-- a call of a sound reader answers no error, and leaves it sound
abbrev pub StaysSound : {T E : Type 0} → Bool → Result T E → Bool → Type 0
StaysSound before (Ok n) after = before ≡ true → after ≡ true
StaysSound before (Err e) after = before ≡ true → ⊥

-- a call of a sound writer takes something of what is not empty, and leaves it sound
abbrev pub TakesSome : {E : Type 0} → Bool → List ℕ → Result ℕ E → Bool → Type 0
TakesSome before buf (Ok n) after = before ≡ true → (after ≡ true) × (0 < length buf → 0 < n)
TakesSome before buf (Err e) after = before ≡ true → ⊥

-- the same over several calls, which want memory besides: for want of it nothing is claimed but that the reader is sound still
abbrev pub ReadsSoundly : {T : Type 0} → Bool → Result T ReceiveFault → Bool → Type 0
ReadsSoundly before (Ok x) after = before ≡ true → after ≡ true
ReadsSoundly before (Err Read) after = before ≡ true → ⊥
ReadsSoundly before (Err OutOfMemory) after = before ≡ true → after ≡ true

-- what holds where memory was refused
abbrev pub OnNoMemory : {T : Type 0} → Result T ReceiveFault → Type 0 → Type 0
OnNoMemory (Ok x) P = ⊤
OnNoMemory (Err Read) P = ⊤
OnNoMemory (Err OutOfMemory) P = P
