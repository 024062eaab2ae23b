-- The response of a release repository: from a state, a request and a moment to the bytes that are written and the state that is left.
use Rattle.std.specs.Prelude.{◌≡◌, ℕ, List, Option, None, Some, map, cond}
use Rattle.denials.specs.Orders as orders
use Rattle.path_patterns.specs.Names.{IsNameOf}
use Rattle.trust_rules.specs.State.{State}
use Rattle.trust_rules.specs.Offers.{offer_of}
use Rattle.trust_rules.specs.Runs.{Command, Batch, PutBlob, Prune, Metadata, Target, Init, OfferOne, Reply, BatchDone, Stored, Pruned, FileBytes, Absent, Refused, Steps}
use Rattle.http_messages.specs.Request.{Request, fault, batch, put_blob, prune, metadata, target, Asks}
use Rattle.http_messages.specs.Text.{response}
use Rattle.http_messages.specs.Bodies.{accepted_text, stored_text, pruned_text, denial_text}
use Rattle.http_messages.specs.Faults.{fault_response, fault_status}
use Rattle.http_messages.specs.declared.faults.Fault.{Fault}
use Rattle.http_messages.specs.declared.faults.Fault.TheVariants.{Name}
use Rattle.http_messages.specs.declared.reply.Kind.{Kind}
use Rattle.http_messages.specs.declared.reply.Kind.TheVariants.{Json, Octets}
use Rattle.http_messages.specs.declared.reply.Status.{Status}
use Rattle.http_messages.specs.declared.reply.Status.TheVariants.{Ok, Forbidden, NotFound}
use Rattle.http_serve.specs.declared.replies.Answer.{Answer}

-- the command that a request is
pub data IsCommand : Request → Command → Type 0 where
  offers : (documents : List (List ℕ × List ℕ)) → IsCommand (batch documents) (Batch (map (λ d. (offer_of d.0, d.1)) documents))
  puts : (digest bytes : List ℕ) → IsCommand (put_blob digest bytes) (PutBlob digest bytes)
  prunes : IsCommand prune Prune
  names : (name : List ℕ) → IsCommand (metadata name) (Metadata name)
  asks : (text path : List ℕ) (digest : Option (List ℕ)) → IsNameOf text path digest → IsCommand (target text) (Target path digest)

-- the type of the files that a command is answered with
abbrev pub kind_of : Command → Kind
kind_of (Init b) = Json
kind_of (Batch os) = Json
kind_of (OfferOne o b) = Json
kind_of (PutBlob digest b) = Json
kind_of Prune = Json
kind_of (Metadata name) = Json
kind_of (Target path asked) = Octets

-- the status of a denial: what is missing is not found, and all else is forbidden
abbrev pub denial_status : orders.Denial → Status
denial_status d = cond (orders.is_missing d) NotFound Forbidden

-- the whole response to a denial
abbrev pub denial_response : orders.Denial → Option ℕ → List ℕ
denial_response d index = response (denial_status d) Json None (denial_text (orders.number d) index (orders.name d))

-- the bytes that say a reply, whose files are of this type
pub data Says (kind : Kind) : Reply → List ℕ → Type 0 where
  done : (accepted same : ℕ) → Says kind (BatchDone accepted same) (response Ok Json None (accepted_text accepted same))
  stored : (new : _) → Says kind (Stored new) (response Ok Json None (stored_text new))
  pruned : (blobs rows : ℕ) → Says kind (Pruned blobs rows) (response Ok Json None (pruned_text blobs rows))
  file : (bytes : List ℕ) → Says kind (FileBytes bytes) (response Ok kind None bytes)
  absent : Says kind Absent (fault_response Name)
  denied : (d : orders.Denial) (index : Option ℕ) → Says kind (Refused d index) (denial_response d index)

-- A text has this status, and is that of the denial of this number or of none: a fault, what was done, or a denial.
pub data Shows (answer : Answer) (text : List ℕ) : Type 0 where
  of_fault : (why : Fault) → answer.status ≡ fault_status why → answer.denial ≡ None → text ≡ fault_response why → Shows answer text
  of_done : (kind : Kind) (body : List ℕ) → answer.status ≡ Ok → answer.denial ≡ None → text ≡ response Ok kind None body → Shows answer text
  of_denial : (d : orders.Denial) (index : Option ℕ) → answer.status ≡ denial_status d → answer.denial ≡ Some (orders.number d) → text ≡ denial_response d index → Shows answer text

-- A request is answered at a moment: a fault by its own text and with no change, and a command by what the trust machine replies, with
-- the state that its step leaves.
pub data RespondsTo (S : State) (now : ℕ) : Request → List ℕ → State → Type 0 where
  at_fault : (why : Fault) → RespondsTo S now (fault why) (fault_response why) S
  by_step : (request : Request) (command : Command) (reply : Reply) (text : List ℕ) (T : State)
      → IsCommand request command → Steps S command now (T, reply) → Says (kind_of command) reply text → RespondsTo S now request text T

-- the response to an input, and the state that is left
pub record Responds (S : State) (input : List ℕ) (now : ℕ) (text : List ℕ) (T : State) : Type 0 where
  pub request : Request
  pub asks : Asks input request
  pub answers : RespondsTo S now request text T
