-- What a request with a body is answered (RFC 9112, sections 4 to 6), over the grammar of `httparse`.
use Rattle.std.specs.Prelude.{ℕ, ◌≤◌, ◌<◌, List, length, Option, Result, Ok, Err, ⊤}
use Rattle.httparse.specs.Grammar.{ResponseHead, status_code}
use Rattle.http_messages.specs.Head.{IsInput}
use Rattle.fetch.specs.declared.FetchFault.{FetchFault}
use Rattle.fetch.specs.declared.FetchFault.TheVariants.{TooLong, Broken, OutOfMemory}
use Rattle.http_fetch.specs.Reply.{Heads, HasNoHead}
use Rattle.http_fetch.specs.declared.sending.Reply.{Reply as Replies}
use Rattle.http_fetch.specs.declared.sending.SendFault.{SendFault}
use Rattle.http_fetch.specs.declared.sending.SendFault.TheVariants.{Unsent, Unanswered}

-- the status and the body of a reply, or why there is none
abbrev pub Told : Type 0
Told = Result (ℕ × List ℕ) FetchFault

-- What an input says: the status of its head and the body, if it is within the limit; all else is no answer.
pub data Says (input : List ℕ) (limit : ℕ) : Told → Type 0 where
  reply : {h : ResponseHead} {body : List ℕ} → Heads input h body → length body ≤ limit → Says input limit (Ok (status_code h, body))
  passes : {h : ResponseHead} {body : List ℕ} → Heads input h body → limit < length body → Says input limit (Err TooLong)
  headless : HasNoHead input → Says input limit (Err Broken)

-- What is answered from a reader of which this is known: what its input says; `Broken` where a call could fail; or want of memory.
pub data Answered (given : Option (List ℕ)) (sound : Type 0) (limit : ℕ) : Told → Type 0 where
  said : {input : List ℕ} {told : Told} → IsInput given input → Says input limit told → Answered given sound limit told
  cut : (sound → ⊥) → Answered given sound limit (Err Broken)
  wanting : Answered given sound limit (Err OutOfMemory)

-- the code's answer
abbrev pub replied : Result Replies FetchFault → Told
replied (Ok r) = Ok (r.status, r.body.items)
replied (Err fault) = Err fault

-- what holds where the request was sent whole
abbrev pub WhereSent : Result Replies SendFault → Type 0 → Type 0
WhereSent (Ok r) P = P
WhereSent (Err (Unanswered fault)) P = P
WhereSent (Err (Unsent fault)) P = ⊤

-- Where the request was sent, the answer is one of these; where it was not, the writer failed, or memory was refused.
abbrev pub SaysWhereSent : Result Replies SendFault → (Told → Type 0) → Type 0 → Type 0
SaysWhereSent (Ok r) P sound = P (Ok (r.status, r.body.items))
SaysWhereSent (Err (Unanswered fault)) P sound = P (Err fault)
SaysWhereSent (Err (Unsent TooLong)) P sound = ⊥
SaysWhereSent (Err (Unsent Broken)) P sound = sound → ⊥
SaysWhereSent (Err (Unsent OutOfMemory)) P sound = ⊤
