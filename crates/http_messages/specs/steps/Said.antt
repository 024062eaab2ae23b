-- What the code found a head to say, step by step.
use Rattle.std.specs.Prelude.{◌≡◌, ◌⊎◌, ℕ, ◌<◌, ◌≤◌, List, length, take, map, Option, Some, None, Bool, true, false, cond, ◌&&◌, bytes_eq, nat_le, Ok, Err, ⊤}
use Rattle.std.specs.List.{list_all}
use Rattle.httparse.specs.Grammar.{RequestHead}
use Rattle.httparse.specs.Spans.{name_and_value}
use Rattle.http_messages.specs.declared.fields.Declared.{Declared}
use Rattle.http_messages.specs.declared.fields.Declared.TheVariants.{Ill, Absent, Given}
use Rattle.http_messages.specs.declared.faults.Fault.TheVariants as no
use Rattle.http_messages.specs.declared.reply.Method.{Method}
use Rattle.http_messages.specs.declared.reply.Method.TheVariants.{Get, Put, Post}
use Rattle.http_messages.specs.declared.request.Said.{Said}
use Rattle.http_messages.specs.declared.request.Said.TheVariants.{Refused, Wanted as IsWanted}
use Rattle.http_messages.specs.declared.routes.Route.{Route}
use Rattle.http_messages.specs.declared.routes.Route.TheVariants.{Batch, Blob, Metadata, Prune, Target}
use Rattle.http_messages.specs.Length.{declared}
use Rattle.http_messages.specs.Orders.{Judged}
use Rattle.http_messages.specs.Request.{Request, fault, metadata, prune, target, Wanted, Ends, IsKept, limit_of, method_of, of_batch, of_blob, writes}
use Rattle.http_messages.specs.RouteOf.{Routed, route_of}
use Rattle.http_messages.specs.Text.{method_text}

abbrev pub wanted : Route → List ℕ → ℕ → Judged Wanted
wanted route name len = Ok (record { route = route; name = name; len = len })

-- what a head was found to say
abbrev pub wanted_by : Said → Judged Wanted
wanted_by (Refused why) = Err why
wanted_by (IsWanted route name len) = wanted route name.now len

abbrev pub is_visible : ℕ → Bool
is_visible b = nat_le 33 b && nat_le b 126

abbrev pub served_route : Bool → Option Routed → Option Routed
served_route false found = found
served_route true None = None
served_route true (Some routed) = cond (writes routed.0) None (Some routed)

abbrev pub length_for : Method → Declared → Option ℕ
length_for method Ill = None
length_for Get Absent = Some 0
length_for Put Absent = None
length_for Post Absent = None
length_for method (Given n) = Some n

abbrev pub said_of_length : Route → List ℕ → Option ℕ → Judged Wanted
said_of_length route name None = Err no.Length
said_of_length route name (Some n) = cond (nat_le n (limit_of route)) (wanted route name n) (Err no.Size)

abbrev pub said_of_route : List ℕ → Declared → Option Routed → Judged Wanted
said_of_route method fields None = Err no.Route
said_of_route method fields (Some routed) =
    cond (bytes_eq method (method_text (method_of routed.0))) (said_of_length routed.0 routed.1 (length_for (method_of routed.0) fields))
    (Err (no.Method (method_of routed.0)))

unfoldable pub said_of_head : Bool → RequestHead → Judged Wanted
said_of_head reads_only h =
    cond (list_all is_visible h.target) (said_of_route h.method (declared (map name_and_value h.fields)) (served_route reads_only (route_of h.target))) (Err no.Head)

-- the head alone refuses nothing
abbrev pub IsOk : Judged Wanted → Type 0
IsOk (Err why) = ⊥
IsOk (Ok asked) = ⊤

-- the head alone refuses nothing, and something has to be kept
abbrev pub HasKept : Judged Wanted → Type 0
HasKept (Err why) = ⊥
HasKept (Ok asked) = IsKept asked.route asked.len

-- what a whole body asks of a route, under what follows the route's prefix
abbrev pub OfBody : Route → List ℕ → List ℕ → Request → Type 0
OfBody Batch name body request = Ends (of_batch body) request
OfBody Blob name body request = Ends (of_blob name body) request
OfBody Metadata name body request = request ≡ metadata name
OfBody Prune name body request = request ≡ prune
OfBody Target name body request = request ≡ target name

-- what the head and what follows it ask
abbrev pub OfRest : Judged Wanted → List ℕ → Request → Type 0
OfRest (Err why) rest request = request ≡ fault why
OfRest (Ok asked) rest request =
    ((length rest < asked.len) × (request ≡ fault no.Body)) ⊎ ((asked.len ≤ length rest) × OfBody asked.route asked.name (take asked.len rest) request)
