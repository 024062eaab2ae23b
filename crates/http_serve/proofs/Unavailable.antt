-- A connection while no database can be opened.
use Rattle.std.proofs.Common.{◌≡◌, ℕ, List, Bool, true, Bor, Option, None, Some, Result, Ok, Err, map, refl, sym, subst}
use Rattle.std.specs.Io.KnownBytes.{Appends}
use Rattle.trust_rules.specs.Runs.{Batch}
use Rattle.http_messages.specs.Framing.{Document}
use Rattle.http_messages.specs.Head.{IsInput}
use Rattle.http_messages.specs.Request.{Request, fault, batch}
use Rattle.http_messages.specs.Faults.{fault_response}
use Rattle.http_messages.specs.Sound.{StaysSound}
use Rattle.http_messages.specs.Taken.{TookSome}
use Rattle.http_messages.specs.declared.faults.Fault.{Fault}
use Rattle.http_messages.specs.declared.faults.Fault.TheVariants.{Database, Memory}
use Rattle.http_messages.specs.declared.line.Cut.{Cut}
use Rattle.http_serve.specs.Response.{IsCommand, Shows}
use Rattle.store.specs.Standing.{Standing}
use Rattle.http_serve.specs.Serving.{AnsweredBy, at_fault, by_command, unread, no_database, EndedBy, EndedUnavailable, Line, UnavailableBy, own_fault, database_fault, memory_fault, ToldUnavailable, Wrote}
use Rattle.http_serve.specs.steps.Views.{HasEnded, IsUnavailable}
use Rattle.http_serve.specs.declared.replies.Answer.{Answer}
use Rattle.http_serve.specs.declared.serve.ServeFault.{ServeFault}
use Rattle.http_serve.specs.declared.serve.ServeFault.TheVariants.{Read, Write}
use Rattle.http_serve.proofs.Asked.{IsSomething, has-wanted}
use Rattle.http_serve.proofs.Standings.{rests}

-- ---- what is said of a request

pub its_own : (why : Fault) → IsUnavailable (fault why) why
its_own why only input asks = own_fault why asks

pub of_command : (request : Request) (command : _) → IsCommand request command → IsUnavailable request Database
of_command request command is only input asks = database_fault request command asks is

pub of_want : (request : Request) → IsSomething request → IsUnavailable request Memory
of_want request some only input asks = memory_fault (has-wanted only input request some asks)

-- ---- how a connection ends

pub tells_unavailable : (only : Bool) (line : Line) (held : Option (List ℕ)) (input text : List ℕ) (after : Bool) (written : Result (Unit {0}) Cut) (answer : Answer) (r : Result (Unit {0}) ServeFault × Option Answer)
    → IsInput line.given input → UnavailableBy only input text → Wrote line.held held text written × Shows answer text → StaysSound line.writes written after → HasEnded written answer r
    → ToldUnavailable only line held r.0 r.1
tells_unavailable only line held input text after (Ok u) answer r is answered (wrote, shows) sound e =
    subst (λ (x : Result (Unit {0}) ServeFault × Option Answer). ToldUnavailable only line held x.0 x.1) (sym e) (input, is, text, answered, wrote, shows)
tells_unavailable only line held input text after (Err f) answer r is answered (wrote, shows) sound e =
    subst (λ (x : Result (Unit {0}) ServeFault × Option Answer). ToldUnavailable only line held x.0 x.1) (sym e) (sound, (input, is, text, answered, wrote, shows))

pub ends_unavailable : (only : Bool) (line : Line) (held : Option (List ℕ)) (r : Result (Unit {0}) ServeFault) (answer : Option Answer) → ToldUnavailable only line held r answer → EndedUnavailable only line held r
ends_unavailable only line held (Ok u) (Some answer) (input, is, text, answered, wrote, shows) = (input, is, text, answered, wrote)
ends_unavailable only line held (Ok u) None h = absurd h
ends_unavailable only line held (Err Read) (Some answer) h = absurd h
ends_unavailable only line held (Err Read) None h = h
ends_unavailable only line held (Err Write) (Some answer) (sound, (input, is, text, answered, wrote, shows)) = (sound, (input, is, text, answered, wrote))
ends_unavailable only line held (Err Write) None h = absurd h

-- ---- as one that is served

served_so : (only : Bool) (input : List ℕ) (now : ℕ) (text : List ℕ) (A : Standing) → UnavailableBy only input text → AnsweredBy only A input now text A
served_so only input now _ A (own_fault why asks) = at_fault why asks
served_so only input now _ A (database_fault request command asks is) = by_command request command _ A asks is (no_database A (rests A))
served_so only input now _ A (memory_fault wants) = unread A wants (rests A)

pub as_served : (only : Bool) (line : Line) (held : Option (List ℕ)) (A : Standing) (r : Result (Unit {0}) ServeFault) → EndedUnavailable only line held r → EndedBy only line held A r A
as_served only line held A (Ok u) (input, is, text, answered, w) = (input, is, text, served_so only input line.now text A answered, w)
as_served only line held A (Err Read) (sound, keeps) = (sound, refl, keeps)
as_served only line held A (Err Write) (sound, (input, is, text, answered, w)) = (sound, (input, is, text, served_so only input line.now text A answered, w))
