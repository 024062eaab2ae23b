-- What an input asks for: one command, or the fault of the first check that fails.
-- (RFC 9110, sections 7 to 9 and 15.5; RFC 9112, sections 3 and 6)
use Rattle.std.specs.Prelude.{◌≡◌, ℕ, ◌<◌, ◌≤◌, List, length, take, map, All, Some, Bool, true, false, Ok, Err, ⊤}
use Rattle.httparse.specs.Grammar.{RequestHead}
use Rattle.httparse.specs.Spans.{name_and_value}
use Rattle.hex.specs.Hex.{encode_lower}
use Rattle.limits.specs.Limits.{blob_limit}
use Rattle.path_patterns.specs.Names.{IsDigest}
use Rattle.http_messages.specs.declared.fields.Declared.{Declared}
use Rattle.http_messages.specs.declared.fields.Declared.TheVariants.{Absent, Given}
use Rattle.http_messages.specs.declared.faults.Fault.{Fault}
use Rattle.http_messages.specs.declared.faults.Fault.TheVariants as no
use Rattle.http_messages.specs.declared.reply.Method.{Method}
use Rattle.http_messages.specs.declared.reply.Method.TheVariants.{Get, Put, Post}
use Rattle.http_messages.specs.declared.routes.Route.{Route}
use Rattle.http_messages.specs.declared.routes.Route.TheVariants.{Batch, Blob, Metadata, Prune, Target}
use Rattle.http_messages.specs.Framing.{Document, IsBatch}
use Rattle.http_messages.specs.Head.{Heads}
use Rattle.http_messages.specs.Length.{declared}
use Rattle.http_messages.specs.Orders.{Order, ◌>>=◌, ◌>>◌, give, check, find}
use Rattle.http_messages.specs.RouteOf.{Routed, route_of}
use Rattle.http_messages.specs.Text.{method_text}

-- what is asked: nothing that could be done, or one command
pub data Request : Type 0 where
  -- a fault
  fault : Fault → Request
  -- a batch of documents
  batch : List Document → Request
  -- a blob's digest, and its bytes
  put_blob : List ℕ → List ℕ → Request
  -- that what the snapshot does not list be removed
  prune : Request
  -- the name of a metadata file
  metadata : List ℕ → Request
  -- the path of a target, perhaps with a digest in it
  target : List ℕ → Request

-- what a head asks for: a route, what follows the route's prefix, and the length of the body
pub record Wanted : Type 0 where
  pub route : Route
  pub name : List ℕ
  pub len : ℕ

-- the one method of a route
abbrev pub method_of : Route → Method
method_of Batch = Post
method_of Blob = Put
method_of Metadata = Get
method_of Prune = Post
method_of Target = Get

-- its command may change something
abbrev pub writes : Route → Bool
writes Batch = true
writes Blob = true
writes Metadata = false
writes Prune = true
writes Target = false

-- the most bytes of a body
abbrev pub limit_of : Route → ℕ
limit_of Batch = 4194304
limit_of Blob = blob_limit
limit_of Metadata = 0
limit_of Prune = 0
limit_of Target = 0

-- a byte that may stand in a target
abbrev pub IsVisible : ℕ → Type 0
IsVisible b = (0x21 ≤ b) × (b ≤ 0x7e)

-- the target has this route, and the server too: one that only reads has no route by which something may be changed
pub record IsRouted (reads_only : Bool) (target : List ℕ) (at : Routed) : Type 0 where
  pub routed : route_of target ≡ Some at
  pub served : reads_only ≡ true → writes at.0 ≡ false

-- the body has the length that the fields declare, and that of a GET whose fields declare none is empty
pub data HasLength : Method → Declared → ℕ → Type 0 where
  declares : {method : Method} {len : ℕ} → HasLength method (Given len) len
  is_empty : HasLength Get Absent 0

-- What a head asks for, of a server of all routes or of one that only reads. Its target has visible bytes alone, and a route; its
-- method is the one of the route; its fields declare the length of the body, which is no more than the route takes.
abbrev pub of_head : Bool → RequestHead → Order Wanted
of_head reads_only h = do
  check no.Head (All IsVisible h.target)
  at ← find no.Route (IsRouted reads_only h.target)
  check (no.Method (method_of at.0)) (h.method ≡ method_text (method_of at.0))
  len ← find no.Length (HasLength (method_of at.0) (declared (map name_and_value h.fields)))
  check no.Size (len ≤ limit_of at.0)
  give (record { route = at.0; name = at.1; len = len })

-- an upload: the name is the 64 hex digits of lower case of a digest
abbrev pub of_blob : List ℕ → List ℕ → Order Request
of_blob name body = do
  digest ← find no.Digest (λ digest. IsDigest digest × (name ≡ encode_lower digest))
  give (put_blob digest body)

-- a batch: the body is documents, each with its name and its length before it
abbrev pub of_batch : List ℕ → Order Request
of_batch body = do
  documents ← find no.Batch (IsBatch body)
  give (batch documents)

-- the command of a route, by what follows the route's prefix and the body
abbrev pub of_body : Route → List ℕ → List ℕ → Order Request
of_body Batch name body = of_batch body
of_body Blob name body = of_blob name body
of_body Metadata name body = give (metadata name)
of_body Prune name body = give prune
of_body Target name body = give (target name)

-- The command of a head that refuses nothing: what follows it has the whole body at its front. What follows the body is not looked at.
abbrev pub of_rest : Wanted → List ℕ → Order Request
of_rest asked rest = do
  check no.Body (asked.len ≤ length rest)
  of_body asked.route asked.name (take asked.len rest)

-- the command of an input: it has a head within the limits at its front, which refuses nothing, and then the body
abbrev pub of_input : Bool → List ℕ → Order Request
of_input reads_only input = do
  at ← find no.Head (λ (at : RequestHead × List ℕ). Heads input at.0 at.1)
  asked ← of_head reads_only at.0
  of_rest asked at.1

-- how an order ends: by a command, or by a fault
pub data Ends (m : Order Request) : Request → Type 0 where
  commands : {request : Request} → m (Ok request) → Ends m request
  refuses : {why : Fault} → m (Err why) → Ends m (fault why)

-- the input asks this, of a server of all routes or of one that only reads
abbrev pub AsksOf : Bool → List ℕ → Request → Type 0
AsksOf reads_only input = Ends (of_input reads_only input)

abbrev pub Asks : List ℕ → Request → Type 0
Asks = AsksOf false

-- the input has a head that no check refuses
pub record HasWantedOf (reads_only : Bool) (input : List ℕ) : Type 0 where
  pub head : RequestHead
  pub rest : List ℕ
  pub asked : Wanted
  pub heads : Heads input head rest
  pub asks : of_head reads_only head (Ok asked)

abbrev pub HasWanted : List ℕ → Type 0
HasWanted = HasWantedOf false

-- it has to be kept until the answer: a body that is not empty, or a name, which is never empty
abbrev pub IsKept : Route → ℕ → Type 0
IsKept Batch len = 0 < len
IsKept Blob len = 0 < len
IsKept Metadata len = ⊤
IsKept Prune len = 0 < len
IsKept Target len = ⊤

-- the input has a head that no check refuses, and something has to be kept
pub record WantsMemoryOf (reads_only : Bool) (input : List ℕ) : Type 0 where
  pub wants : HasWantedOf reads_only input
  pub keeps : IsKept wants.asked.route wants.asked.len

abbrev pub WantsMemory : List ℕ → Type 0
WantsMemory = WantsMemoryOf false
