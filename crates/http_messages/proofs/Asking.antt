-- Laws of what an input asks.
use Rattle.std.proofs.Common.{◌≡◌, ◌<◌, Bool, ℕ, List, ◌++◌, drop, map, take, Option, Some, None, Ok, Err, refl, sym, ap, ◌∙◌, arith, subst}
use Rattle.httparse.specs.Spans.{name_and_value}
use Rattle.std.specs.Io.KnownBytes.{Consumes}
use Rattle.hex.specs.Hex.{encode_lower}
use Rattle.httparse.specs.Grammar.{RequestHead}
use Rattle.httparse.specs.Spans.{IsRequestAt}
use Rattle.httparse.specs.declared.spans.HeaderSpan.{HeaderSpan}
use Rattle.httparse.specs.declared.spans.RequestSpans.{RequestSpans}
use Rattle.httparse.proofs.GrammarLemmas.{ReadsRequest-append, request_unique}
use Rattle.path_patterns.specs.Names.{IsDigest}
use Rattle.http_messages.specs.declared.routes.Route.{Route}
use Rattle.http_messages.specs.declared.routes.Route.TheVariants.{Batch, Blob, Metadata, Prune, Target}
use Rattle.http_messages.specs.Head.{FoundHead, Heads, IsInput, left}
use Rattle.http_messages.specs.Sound.{OnNoMemory}
use Rattle.http_messages.specs.declared.request.Received.{Received}
use Rattle.http_messages.specs.declared.line.ReceiveFault.{ReceiveFault}
use Rattle.http_messages.specs.declared.line.ReceiveFault.TheVariants.{Read, OutOfMemory}
use Rattle.http_messages.specs.declared.fields.Declared.{Declared}
use Rattle.http_messages.specs.declared.reply.Method.{Method}
use Rattle.http_messages.specs.Length.{declared}
use Rattle.http_messages.specs.Orders.{Judged}
use Rattle.http_messages.specs.RouteOf.{Routed}
use Rattle.http_messages.specs.Request.{Request, Wanted, HasWantedOf, IsKept, WantsMemoryOf, IsRouted, HasLength, declares, is_empty, method_of, of_head, of_body, of_input, AsksOf}
use Rattle.http_messages.specs.steps.Said.{said_of_head, IsOk, HasKept, OfRest}
use Rattle.denials.proofs.DefiniteOrders.{Definite, line, check-definite, give-definite}
use Rattle.http_messages.proofs.DefiniteOrders.{find-definite, one-end}
use Rattle.http_messages.proofs.SaidInOrder.{head-in-order, asks-by-head}
use Rattle.http_messages.proofs.Frames.{one-batch}

-- ---- one request for an input

one-length : (method : Method) (fields : Declared) (a b : ℕ) → HasLength method fields a → HasLength method fields b → a ≡ b
one-length method fields a b declares declares = refl
one-length method fields a b is_empty is_empty = refl

abbrev routed_or : Routed → Option Routed → Routed
routed_or at None = at
routed_or at (Some other) = other

one-route : (only : Bool) (target : List ℕ) (a b : Routed) → IsRouted only target a → IsRouted only target b → a ≡ b
one-route only target a b x y = ap (routed_or a) (sym x.routed ∙ y.routed)

of_head-definite : (only : Bool) (h : RequestHead) → Definite (of_head only h)
of_head-definite only h =
    line (check-definite _ _) (λ _.
    line (find-definite _ _ (one-route only h.target)) (λ at.
    line (check-definite _ _) (λ _.
    line (find-definite _ _ (one-length (method_of at.0) (declared (map name_and_value h.fields)))) (λ len.
    line (check-definite _ _) (λ _. give-definite _)))))

one-parting : (input : List ℕ) (a b : RequestHead × List ℕ) → Heads input a.0 a.1 → Heads input b.0 b.1 → a ≡ b
one-parting input (h, rest) (k, other) x y =
    let (heads, rests) = request_unique input h k rest other x.reads y.reads in
    let first : ◌≡◌ {A = RequestHead × List ℕ} (h, rest) (k, rest) = ap (λ z. (z, rest)) heads in
    first ∙ ap (λ z. (k, z)) rests

module _ (one_digest : (d e : List ℕ) → IsDigest d → IsDigest e → encode_lower d ≡ encode_lower e → d ≡ e) where
  of_body-definite : (route : Route) (name body : List ℕ) → Definite (of_body route name body)
  of_body-definite Batch name body = line (find-definite _ _ (one-batch body)) (λ documents. give-definite _)
  of_body-definite Blob name body = line (find-definite _ _ (λ d e x y. one_digest d e x.0 y.0 (sym x.1 ∙ y.1))) (λ digest. give-definite _)
  of_body-definite Metadata name body = give-definite _
  of_body-definite Prune name body = give-definite _
  of_body-definite Target name body = give-definite _

  of_input-definite : (only : Bool) (input : List ℕ) → Definite (of_input only input)
  of_input-definite only input =
      line (find-definite _ _ (one-parting input)) (λ at.
      line (of_head-definite only at.0) (λ asked.
      line (check-definite _ _) (λ _. of_body-definite asked.route asked.name (take asked.len at.1))))

  pub one-request : (only : Bool) (input : List ℕ) (a b : Request) → AsksOf only input a → AsksOf only input b → a ≡ b
  one-request only input = one-end (of_input only input) (of_input-definite only input)

-- ---- what was read

-- what a head that was found says of the rest of the input is what the input asks
pub asks-wanted : (only : Bool) (got known gave more : List ℕ) (headers : List HeaderSpan) (spans : RequestSpans) (said : Judged Wanted) (request : Request)
    → FoundHead got known headers (Some spans) → ((h : RequestHead) → IsRequestAt got headers spans h → said ≡ said_of_head only h)
    → OfRest said (drop spans.len got ++ gave ++ more) request → AsksOf only (got ++ gave ++ more) request
asks-wanted only got known gave more headers spans said request (within, h, at, small) says rest =
    asks-by-head only (got ++ gave ++ more) h (drop spans.len got ++ gave ++ more) request
    (record { reads = ReadsRequest-append (got ++ gave) h (drop spans.len got ++ gave) more (ReadsRequest-append got h (drop spans.len got) gave at.reads); small = small })
    (subst (λ w. OfRest w (drop spans.len got ++ gave ++ more) request) (says h at) rest)

-- what was read, and what is known to be left, is the input
pub input-is : (old new : Option (List ℕ)) (got : List ℕ) → Consumes old new got → IsInput old (got ++ left new)
input-is None new got h = tt
input-is (Some x) None got h = absurd h
input-is (Some x) (Some y) got h = sym h

-- a head of which the code found this, and that refuses nothing
ok-said : (only : Bool) (h : RequestHead) (said : Judged Wanted) → of_head only h said → IsOk said → (asked : Wanted) × of_head only h (Ok asked) × (said ≡ Ok asked)
ok-said only h (Ok asked) says ok = (asked, says, refl)
ok-said only h (Err why) says ok = absurd ok

-- what has to be kept is of a head that refuses nothing
kept-ok : (said : Judged Wanted) → HasKept said → IsOk said
kept-ok (Err why) h = absurd h
kept-ok (Ok asked) h = tt

-- a body that is not empty is kept whatever its length is
pub kept-more : (route : Route) (len : ℕ) → IsKept route 0 → IsKept route len
kept-more Batch len h = absurd (omega (arith, h))
kept-more Blob len h = absurd (omega (arith, h))
kept-more Metadata len h = tt
kept-more Prune len h = absurd (omega (arith, h))
kept-more Target len h = tt

pub kept-body : (route : Route) (len : ℕ) → 0 < len → IsKept route len
kept-body Batch len h = h
kept-body Blob len h = h
kept-body Metadata len h = tt
kept-body Prune len h = h
kept-body Target len h = tt

-- a head that was found asks for what has to be kept
pub wants-memory : (only : Bool) (got known : List ℕ) (headers : List HeaderSpan) (spans : RequestSpans) (said : Judged Wanted)
    → FoundHead got known headers (Some spans) → ((h : RequestHead) → IsRequestAt got headers spans h → said ≡ said_of_head only h) → HasKept said → WantsMemoryOf only (got ++ known)
wants-memory only got known headers spans said (within, h, at, small) says keeps =
    let kept : HasKept (said_of_head only h) = subst HasKept (says h at) keeps in
    let (asked, asks, is) = ok-said only h (said_of_head only h) (head-in-order only h) (kept-ok (said_of_head only h) kept) in
    record {
      wants = record {
        head = h;
        rest = drop spans.len got ++ known;
        asked = asked;
        heads = record { reads = ReadsRequest-append got h (drop spans.len got) known at.reads; small = small };
        asks = asks;
      };
      keeps = subst HasKept is kept;
    }

-- a head that was found refuses nothing, where more was read behind it
pub wanted-more : (only : Bool) (got known gave more : List ℕ) (headers : List HeaderSpan) (spans : RequestSpans) (said : Judged Wanted)
    → FoundHead got known headers (Some spans) → ((h : RequestHead) → IsRequestAt got headers spans h → said ≡ said_of_head only h) → IsOk said → HasWantedOf only (got ++ gave ++ more)
wanted-more only got known gave more headers spans said (within, h, at, small) says wants =
    let (asked, asks, is) = ok-said only h (said_of_head only h) (head-in-order only h) (subst IsOk (says h at) wants) in
    record {
      head = h;
      rest = drop spans.len got ++ gave ++ more;
      asked = asked;
      heads = record { reads = ReadsRequest-append (got ++ gave) h (drop spans.len got ++ gave) more (ReadsRequest-append got h (drop spans.len got) gave at.reads); small = small };
      asks = asks;
    }

pub on-no-memory : (why : ReceiveFault) (P Q : Type 0) → (P → Q) → OnNoMemory {T = Received} (Err why) P → OnNoMemory {T = Received} (Err why) Q
on-no-memory Read P Q f h = tt
on-no-memory OutOfMemory P Q f h = f h
