-- The answer to a request.
use Rattle.std.proofs.Common.{◌≡◌, ℕ, List, [], ◌∷◌, map, Bor, Option, None, Some, Result, Ok, Err, Bool, true, refl, sym, ap, subst}
use Rattle.trust_rules.specs.Runs.{Command, Batch}
use Rattle.http_messages.specs.Framing.{Document}
use Rattle.http_messages.specs.Head.{IsInput}
use Rattle.http_messages.specs.Request.{Request, fault, batch}
use Rattle.http_messages.specs.Faults.{fault_response}
use Rattle.http_messages.specs.Sound.{OnNoMemory, ReadsSoundly, StaysSound}
use Rattle.http_messages.specs.declared.line.ReceiveFault.{ReceiveFault}
use Rattle.http_messages.specs.declared.line.ReceiveFault.TheVariants.{Read, OutOfMemory}
use Rattle.http_messages.specs.declared.request.Received.{Received}
use Rattle.http_messages.specs.declared.faults.Fault.{Fault}
use Rattle.http_messages.specs.declared.faults.Fault.TheVariants.{Memory}
use Rattle.http_messages.specs.declared.line.Cut.{Cut}
use Rattle.http_serve.specs.Response.{IsCommand, Shows, offers}
use Rattle.trust_rules.specs.Offers.{offer_of}
use Rattle.store.specs.Standing.{Standing, Keeps}
use Rattle.http_serve.specs.Serving.{AnsweredBy, at_fault, by_command, unread, EndedBy, Line, ToldBy, Wrote}
use Rattle.http_serve.specs.steps.Views.{HasEnded, offers_of, Performed, Responded, WroteAs}
use Rattle.http_serve.specs.declared.replies.Answer.{Answer}
use Rattle.http_serve.specs.declared.replies.Written.{Written}
use Rattle.http_serve.specs.declared.serve.ServeFault.{ServeFault}
use Rattle.http_serve.specs.declared.serve.ServeFault.TheVariants.{Read as Gone, Write}
use Rattle.http_serve.proofs.Asked.{IsSomething, has-wanted}

-- a fault is written
pub faulty : (A : Standing) (why : Fault) (now : ℕ) (old new : Option (List ℕ)) (r : Written) → WroteAs old new (fault_response why) r → Responded A (fault why) now A old new r
faulty A why now old new r w = (fault_response why, λ only input asks. at_fault why asks, w)

-- a request is made as a command
pub served : (A B : Standing) (request : Request) (c : Command) (now : ℕ) (old new : Option (List ℕ)) (r : Written)
    → IsCommand request c → Performed A c now B old new r → Responded A request now B old new r
served A B request c now old new r is (text, made, w) = (text, λ only input asks. by_command request c text B asks is made, w)

-- there is no memory to find out which command it is
pub wanting : (A B : Standing) (request : Request) (now : ℕ) (old new : Option (List ℕ)) (r : Written)
    → IsSomething request → Keeps A B → WroteAs old new (fault_response Memory) r → Responded A request now B old new r
wanting A B request now old new r some keeps w = (fault_response Memory, λ only input asks. unread B (has-wanted only input request some asks) keeps, w)

-- the documents of a batch are its offers
pub offered : (documents : List (List ℕ × Bor (List ℕ))) → IsCommand (batch (map {B = Document} (λ d. (d.0, d.1.now)) documents)) (Batch (offers_of documents))
offered documents = subst (λ os. IsCommand (batch (map {B = Document} (λ d. (d.0, d.1.now)) documents)) (Batch os)) (twice documents) (offers (map {B = Document} (λ d. (d.0, d.1.now)) documents))
  where
    twice : (documents : List (List ℕ × Bor (List ℕ))) → map (λ (d : Document). (offer_of d.0, d.1)) (map {B = Document} (λ d. (d.0, d.1.now)) documents) ≡ offers_of documents
    twice [] = refl
    twice (d ∷ rest) = ap (λ l. (offer_of d.0, d.1.now) ∷ l) (twice rest)

-- what is said of a reader that failed, and of memory that was refused
pub of-read : (why : ReceiveFault) (before after : Bool) → why ≡ Read → ReadsSoundly {T = Received} before (Err why) after → before ≡ true → ⊥
of-read why before after e h = subst (λ w. ReadsSoundly {T = Received} before (Err w) after) e h

pub of-no-memory : (why : ReceiveFault) (P : Type 0) → why ≡ OutOfMemory → OnNoMemory {T = Received} (Err why) P → P
of-no-memory why P e h = subst (λ w. OnNoMemory {T = Received} (Err w) P) e h

-- how a connection ends that was read
pub tells : (only : Bool) (line : Line) (held : Option (List ℕ)) (A B : Standing) (input text : List ℕ) (after : Bool) (written : Result (Unit {0}) Cut) (answer : Answer) (r : Result (Unit {0}) ServeFault × Option Answer)
    → IsInput line.given input → AnsweredBy only A input line.now text B → Wrote line.held held text written × Shows answer text → StaysSound line.writes written after → HasEnded written answer r → ToldBy only line held A r.0 r.1 B
tells only line held A B input text after (Ok u) answer r is answered (wrote, shows) sound e =
    subst (λ (x : Result (Unit {0}) ServeFault × Option Answer). ToldBy only line held A x.0 x.1 B) (sym e) (input, is, text, answered, wrote, shows)
tells only line held A B input text after (Err f) answer r is answered (wrote, shows) sound e =
    subst (λ (x : Result (Unit {0}) ServeFault × Option Answer). ToldBy only line held A x.0 x.1 B) (sym e) (sound, (input, is, text, answered, wrote, shows))

-- and so it ends, whatever is told of it
pub ends : (only : Bool) (line : Line) (held : Option (List ℕ)) (A B : Standing) (r : Result (Unit {0}) ServeFault) (answer : Option Answer) → ToldBy only line held A r answer B → EndedBy only line held A r B
ends only line held A B (Ok u) (Some answer) (input, is, text, answered, wrote, shows) = (input, is, text, answered, wrote)
ends only line held A B (Ok u) None h = absurd h
ends only line held A B (Err Gone) (Some answer) h = absurd h
ends only line held A B (Err Gone) None h = h
ends only line held A B (Err Write) (Some answer) (sound, (input, is, text, answered, wrote, shows)) = (sound, (input, is, text, answered, wrote))
ends only line held A B (Err Write) None h = absurd h
