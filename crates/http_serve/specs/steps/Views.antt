-- What the code's values stand for, and what its parts are asked.
use Rattle.std.specs.Prelude.{◌≡◌, ◌⊎◌, ℕ, List, Option, Some, Result, Ok, Err, Bool, map, ⊤}
use Rattle.std.specs.Borrow.{Bor}
use Rattle.trust_rules.specs.Runs.{Command, Init, OfferOne, Batch, PutBlob, Prune, Metadata, Target, Reply, Begun, Offered, BatchDone, Stored, Pruned, FileBytes, Absent, Refused}
use Rattle.trust_rules.specs.Offers.{Offer, offer_of}
use Rattle.http_messages.specs.Faults.{fault_response}
use Rattle.http_messages.specs.Request.{Request, AsksOf}
use Rattle.table_rows.specs.declared.faults.StoreFault.{StoreFault}
use Rattle.table_rows.specs.declared.faults.StoreFault.TheVariants as store
use Rattle.http_messages.specs.declared.faults.Fault.{Fault}
use Rattle.http_messages.specs.declared.faults.Fault.TheVariants.{Memory, Database}
use Rattle.http_messages.specs.declared.reply.Kind.{Kind}
use Rattle.http_messages.specs.declared.line.Cut.{Cut}
use Rattle.http_serve.specs.Response.{Says, Shows}
use Rattle.http_serve.specs.Serving.{AnsweredBy, Made, UnavailableBy, Wrote}
use Rattle.store.specs.Standing.{Standing}
use Rattle.http_serve.specs.declared.replies.Answer.{Answer}
use Rattle.http_serve.specs.declared.replies.Written.{Written}
use Rattle.http_serve.specs.declared.serve.ServeFault.{ServeFault}
use Rattle.http_serve.specs.declared.serve.ServeFault.TheVariants.{Write}

-- documents of a request, each with its name, as offers
abbrev pub offers_of : List (List ℕ × Bor (List ℕ)) → List (Offer × List ℕ)
offers_of documents = map (λ d. (offer_of d.0, d.1.now)) documents

-- a command that a request can be
abbrev pub IsServed : Command → Type 0
IsServed (Init b) = ⊥
IsServed (OfferOne o b) = ⊥
IsServed (Batch os) = ⊤
IsServed (PutBlob digest b) = ⊤
IsServed Prune = ⊤
IsServed (Metadata name) = ⊤
IsServed (Target path asked) = ⊤

-- a reply to one
abbrev pub IsSaid : Reply → Type 0
IsSaid Begun = ⊥
IsSaid (Offered same) = ⊥
IsSaid (BatchDone accepted same) = ⊤
IsSaid (Stored new) = ⊤
IsSaid (Pruned blobs rows) = ⊤
IsSaid (FileBytes bytes) = ⊤
IsSaid Absent = ⊤
IsSaid (Refused d index) = ⊤

-- a denial, whose body takes memory
abbrev pub IsDenial : Reply → Type 0
IsDenial Begun = ⊥
IsDenial (Offered same) = ⊥
IsDenial (BatchDone accepted same) = ⊥
IsDenial (Stored new) = ⊥
IsDenial (Pruned blobs rows) = ⊥
IsDenial (FileBytes bytes) = ⊥
IsDenial Absent = ⊥
IsDenial (Refused d index) = ⊤

-- how it is said that a command was not made
abbrev pub IsUnmade : StoreFault → Fault → Type 0
IsUnmade store.OutOfMemory said = said ≡ Memory
IsUnmade store.Database said = said ≡ Database
IsUnmade store.Damaged said = ⊥

-- a text was written whole, or a beginning of it, and what is told of it
abbrev pub WroteAs : Option (List ℕ) → Option (List ℕ) → List ℕ → Written → Type 0
WroteAs old new text w = Wrote old new text w.written × Shows w.answer text

-- a reply was written, or, of a denial, that there was no memory for it
abbrev pub Told : Kind → Reply → Option (List ℕ) → Option (List ℕ) → Written → Type 0
Told kind reply old new r = (text : List ℕ) × (Says kind reply text ⊎ (IsDenial reply × (text ≡ fault_response Memory))) × WroteAs old new text r

-- a command was made, and the answer written
abbrev pub Performed : Standing → Command → ℕ → Standing → Option (List ℕ) → Option (List ℕ) → Written → Type 0
Performed A command now B old new r = (text : List ℕ) × Made A command now text B × WroteAs old new text r

-- a request was answered: each input that asks it is, of a server of all routes as of one that only reads
abbrev pub Responded : Standing → Request → ℕ → Standing → Option (List ℕ) → Option (List ℕ) → Written → Type 0
Responded A request now B old new r = (text : List ℕ) × ((reads_only : Bool) (input : List ℕ) → AsksOf reads_only input request → AnsweredBy reads_only A input now text B) × WroteAs old new text r

-- a fault says of a request that no database can be opened: each input that asks it is so answered
abbrev pub IsUnavailable : Request → Fault → Type 0
IsUnavailable request why = (reads_only : Bool) (input : List ℕ) → AsksOf reads_only input request → UnavailableBy reads_only input (fault_response why)

-- how a connection ends by how its answer was written
abbrev pub HasEnded : Result (Unit {0}) Cut → Answer → Result (Unit {0}) ServeFault × Option Answer → Type 0
HasEnded (Ok u) answer r = r ≡ (Ok tt, Some answer)
HasEnded (Err e) answer r = r ≡ (Err Write, Some answer)
