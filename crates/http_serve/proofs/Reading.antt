-- A server that only reads changes nothing.
use Rattle.std.proofs.Common.{◌≡◌, true, false, ℕ, List, Option, take, Ok, Err, refl, ap}
use Rattle.std.specs.Bool.{⊤}
use Rattle.denials.specs.Orders.{Judged, Same, Denied}
use Rattle.httparse.specs.Grammar.{RequestHead}
use Rattle.trust_rules.specs.State.{State}
use Rattle.trust_rules.specs.Runs.{Command, Init, Batch, OfferOne, PutBlob, Prune, Metadata, Target, Reply, Begun, Offered, BatchDone, Stored, Pruned, FileBytes, Absent, Refused, Steps, Outcome, settled, leads}
use Rattle.http_messages.specs.declared.routes.Route.{Route}
use Rattle.http_messages.specs.declared.routes.Route.TheVariants as routes
use Rattle.http_messages.specs.Orders.{pass, found, given}
use Rattle.http_messages.specs.Request.{Request, fault, batch, put_blob, prune, metadata, target, Wanted, writes, of_head, of_body, AsksOf, commands, refuses}
use Rattle.http_serve.specs.Response.{IsCommand, offers, puts, prunes, names, asks}
use Rattle.http_serve.specs.Serving.{AnsweredBy, at_fault, by_command, unread, Made, by_step, no_memory, no_database}
use Rattle.store.specs.Applies.{Replies}
use Rattle.store.specs.Standing.{IsClean, Moves, Standing}
use Rattle.http_serve.proofs.OneResponse.{moved, unmoved}

-- ---- what such a server is asked

abbrev IsRead : Request → Type 0
IsRead (fault why) = ⊤
IsRead (batch documents) = ⊥
IsRead (put_blob digest bytes) = ⊥
IsRead prune = ⊥
IsRead (metadata name) = ⊤
IsRead (target text) = ⊤

abbrev IsReading : Command → Type 0
IsReading (Init b) = ⊥
IsReading (Batch os) = ⊥
IsReading (OfferOne o b) = ⊥
IsReading (PutBlob digest b) = ⊥
IsReading Prune = ⊥
IsReading (Metadata name) = ⊤
IsReading (Target path asked) = ⊤

head-reads : (h : RequestHead) (asked : Wanted) → of_head true h (Ok asked) → writes asked.route ≡ false
head-reads h _ (pass visible (pass (found is) (pass method (pass length (pass size given))))) = is.served refl

body-reads : (route : Route) (name body : List ℕ) (request : Request) → writes route ≡ false → of_body route name body (Ok request) → IsRead request
body-reads routes.Batch name body request reads says = absurd (let e : true ≡ false = reads in cc)
body-reads routes.Blob name body request reads says = absurd (let e : true ≡ false = reads in cc)
body-reads routes.Metadata name body _ reads given = tt
body-reads routes.Prune name body request reads says = absurd (let e : true ≡ false = reads in cc)
body-reads routes.Target name body _ reads given = tt

asked-reads : (input : List ℕ) (request : Request) → AsksOf true input request → IsRead request
asked-reads input request (commands (pass {a = at} heads (pass {a = asked} head (pass whole body)))) =
    body-reads asked.route asked.name (take asked.len at.1) request (head-reads at.0 asked head) body
asked-reads input _ (refuses says) = tt

command-reads : (request : Request) (command : Command) → IsRead request → IsCommand request command → IsReading command
command-reads request command read (offers documents) = absurd read
command-reads request command read (puts digest bytes) = absurd read
command-reads request command read prunes = absurd read
command-reads request command read (names name) = tt
command-reads request command read (asks text path digest h) = tt

-- ---- such a command keeps the state

settled-stays : (S : State) (j : Judged (List ℕ)) → (settled S (λ b. (S, FileBytes b)) Absent j).0 ≡ S
settled-stays S (Ok b) = refl
settled-stays S (Err Same) = refl
settled-stays S (Err (Denied d)) = refl

target-stays : (S : State) (path : List ℕ) (asked : Option (List ℕ)) (now : ℕ) (o : Outcome) → Steps S (Target path asked) now o → o.0 ≡ S
target-stays S path asked now o (leads j h) = settled-stays S j

replies-stay : (trusted : Type 0) (S T : State) (c : Command) (now : ℕ) (reply : Reply) → IsReading c → Replies trusted S c now T reply → T ≡ S
replies-stay trusted S T (Init b) now reply reads h = absurd reads
replies-stay trusted S T (Batch os) now reply reads h = absurd reads
replies-stay trusted S T (OfferOne o b) now reply reads h = absurd reads
replies-stay trusted S T (PutBlob digest b) now reply reads h = absurd reads
replies-stay trusted S T Prune now reply reads h = absurd reads
replies-stay trusted S T (Metadata name) now reply reads h = ap (λ (o : Outcome). o.0) h
replies-stay trusted S T (Target path asked) now (FileBytes bytes) reads h = h.0
replies-stay trusted S T (Target path asked) now (Refused d i) reads h = h.0
replies-stay trusted S T (Target path asked) now Begun reads h = target-stays S path asked now (T, Begun) h
replies-stay trusted S T (Target path asked) now (Offered same) reads h = target-stays S path asked now (T, Offered same) h
replies-stay trusted S T (Target path asked) now (BatchDone a s) reads h = target-stays S path asked now (T, BatchDone a s) h
replies-stay trusted S T (Target path asked) now (Stored new) reads h = target-stays S path asked now (T, Stored new) h
replies-stay trusted S T (Target path asked) now (Pruned blobs rows) reads h = target-stays S path asked now (T, Pruned blobs rows) h
replies-stay trusted S T (Target path asked) now Absent reads h = target-stays S path asked now (T, Absent) h

made-stays : (A B : Standing) (c : Command) (now : ℕ) (text : List ℕ) → IsReading c → Made A c now text B → Moves A B (λ S T. T ≡ S)
made-stays A B c now text reads (by_step reply t C moves says holds) = moved (λ S T so. replies-stay (IsClean B) S T c now reply reads so) moves
made-stays A B c now text reads (no_memory C keeps) = keeps.state
made-stays A B c now text reads (no_database C keeps) = keeps.state

pub changes-nothing : (A B : Standing) (input : List ℕ) (now : ℕ) (text : List ℕ) → AnsweredBy true A input now text B → Moves A B (λ S T. T ≡ S)
changes-nothing A B input now text (at_fault why asked) = unmoved A (λ S T. T ≡ S) (λ S. refl)
changes-nothing A B input now text (by_command request c t C asked is made) =
    made-stays A B c now text (command-reads request c (asked-reads input request asked) is) made
changes-nothing A B input now text (unread C wants keeps) = keeps.state
