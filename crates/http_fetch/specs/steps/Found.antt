-- What was read of a reply.
use Rattle.std.specs.Prelude.{◌≡◌, ◌≢◌, ◌⊎◌, ℕ, ◌≤◌, ◌<◌, ◌++◌, List, drop, length, max, suc, Bool, true, Option, Some, None, Result, Ok, Err}
use Rattle.std.specs.Io.KnownBytes.{Consumes, IsAtEnd}
use Rattle.std.proofs.Common.{Vec, Global}
use Rattle.httparse.specs.Grammar.{ResponseHead, status_code}
use Rattle.httparse.specs.declared.spans.ResponseSpans.{ResponseSpans}
use Rattle.fetch.specs.declared.FetchFault.{FetchFault}
use Rattle.fetch.specs.declared.FetchFault.TheVariants.{TooLong, Broken, OutOfMemory}
use Rattle.http_messages.specs.Head.{IsInput}
use Rattle.fetch.specs.Source.{Answer}
use Rattle.http_fetch.specs.Reply.{Heads, HasNoHead}

-- the head stands in the bytes `got`, as the spans say, and the rest of them begins its body
pub record IsFound (got : List ℕ) (spans : ResponseSpans) (h : ResponseHead) : Type 0 where
  pub within : spans.len ≤ length got
  pub code : status_code h ≡ spans.code
  pub heads : Heads got h (drop spans.len got)

-- what a search for a head found in the bytes `got`, of which `more` is the rest
abbrev pub FoundHead : List ℕ → List ℕ → Option ResponseSpans → Type 0
FoundHead got more None = HasNoHead (got ++ more)
FoundHead got more (Some spans) = (h : ResponseHead) × IsFound got spans h

-- what was read behind `front`, and that not more than one byte past the limit was
pub record HasRead (old new : Option (List ℕ)) (front : List ℕ) (limit : ℕ) (gave : List ℕ) : Type 0 where
  pub consumes : Consumes old new gave
  pub few : length (front ++ gave) ≤ max (length front) (suc limit)

-- what was read of a body that begins with `front`
abbrev pub TookBody : Option (List ℕ) → Option (List ℕ) → List ℕ → ℕ → Type 0
TookBody old new front limit = (gave : List ℕ) × HasRead old new front limit gave

-- how the reading of a body ends
abbrev pub ReadsRest : Option (List ℕ) → Option (List ℕ) → Bool → List ℕ → ℕ → Result (Vec ℕ Global) FetchFault → Type 0
ReadsRest old new before front limit (Ok body) =
    (gave : List ℕ) × HasRead old new front limit gave × IsAtEnd new × (body.items ≡ front ++ gave) × (length (front ++ gave) ≤ limit)
ReadsRest old new before front limit (Err TooLong) = (gave : List ℕ) × HasRead old new front limit gave × (limit < length (front ++ gave))
ReadsRest old new before front limit (Err Broken) = (gave : List ℕ) × HasRead old new front limit gave × (before ≡ true → ⊥)
ReadsRest old new before front limit (Err OutOfMemory) = TookBody old new front limit

-- what a reply of a status answers, by what its reader is known to have left behind the beginning of its body
pub data ReadsBody (given : Option (List ℕ)) (sound : Bool) (code : ℕ) (front : List ℕ) (limit : ℕ) : Answer → Type 0 where
  found : (more : List ℕ) → code ≡ 200 → IsInput given more → length (front ++ more) ≤ limit → ReadsBody given sound code front limit (Ok (Some (front ++ more)))
  passes : (more : List ℕ) → code ≡ 200 → IsInput given more → limit < length (front ++ more) → ReadsBody given sound code front limit (Err TooLong)
  absent : (code ≡ 403) ⊎ (code ≡ 404) → ReadsBody given sound code front limit (Ok None)
  other : code ≢ 200 → code ≢ 403 → code ≢ 404 → ReadsBody given sound code front limit (Err Broken)
  cut : (sound ≡ true → ⊥) → ReadsBody given sound code front limit (Err Broken)
  wanting : ReadsBody given sound code front limit (Err OutOfMemory)
