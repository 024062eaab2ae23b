-- What the code finds step by step is what the order of checks says.
use Rattle.std.proofs.Common.{◌≡◌, inl, inr, ⊎_elim, ◌≤◌, Bool, true, false, cond, bytes_eq, nat_le, ℕ, List, length, map, take, Option, Some, None, Ok, Err, refl, sym, ap, ◌∙◌, arith, subst}
use Rattle.std.specs.Prelude.{All}
use Rattle.std.specs.Bool.{Decides}
use Rattle.std.specs.List.{list_all}
use Rattle.std.proofs.lemmas.Bool.{true≢false}
use Rattle.std.proofs.lemmas.Bool.Decides.{leb_tells, Decides-and, Decides-by_and}
use Rattle.std.proofs.lemmas.Slice.Eq.{bytes_eq-Decides}
use Rattle.httparse.specs.Grammar.{RequestHead}
use Rattle.httparse.specs.Spans.{name_and_value}
use Rattle.http_messages.specs.declared.fields.Declared.{Declared}
use Rattle.http_messages.specs.declared.fields.Declared.TheVariants.{Ill, Absent, Given}
use Rattle.http_messages.specs.declared.faults.Fault.{Fault}
use Rattle.http_messages.specs.declared.faults.Fault.TheVariants as no
use Rattle.http_messages.specs.declared.reply.Method.{Method}
use Rattle.http_messages.specs.declared.reply.Method.TheVariants.{Get, Put, Post}
use Rattle.http_messages.specs.declared.routes.Route.{Route}
use Rattle.http_messages.specs.declared.routes.Route.TheVariants.{Batch, Blob, Metadata, Prune, Target}
use Rattle.http_messages.specs.Head.{Heads, HasNoHead}
use Rattle.http_messages.specs.Length.{declared}
use Rattle.http_messages.specs.Orders.{Judged, Order, pass, decide, holds, fails, found, lacks, given, ◌>>=◌, ◌>>◌, give, check, find}
use Rattle.http_messages.specs.Request.{Request, fault, Wanted, method_of, limit_of, writes, IsVisible, IsRouted, HasLength, declares, is_empty, of_head, of_body, of_rest, Ends, commands, refuses, AsksOf}
use Rattle.http_messages.specs.RouteOf.{Routed, route_of}
use Rattle.http_messages.specs.Text.{method_text}
use Rattle.http_messages.specs.steps.Said.{wanted, is_visible, served_route, length_for, said_of_length, said_of_route, said_of_head, OfBody, OfRest}

-- ---- the head

at-most : (a b : ℕ) → Decides (nat_le a b) (a ≤ b)
at-most a b = ⊎_elim (λ h. (λ _. h.1, λ _. h.0)) (λ h. (λ e. absurd (true≢false (sym e ∙ h.0)), λ p. absurd (omega (arith, p, h.1)))) (leb_tells a b)

visible : (target : List ℕ) → Decides (list_all is_visible target) (All IsVisible target)
visible target =
    Decides-by_and is_visible IsVisible (list_all is_visible) (λ b. Decides-and (nat_le 33 b) (nat_le b 126) (at-most 33 b) (at-most b 126)) refl (λ _ _. refl)
    target

-- a check by a test, and what follows it
checked : {A : Type 0} (why : Fault) (P : Type 0) (m : Order A) (j : Judged A) (test : Bool) → Decides test P → m j → (check why P >> m) (cond test j (Err why))
checked why P m j true decides h = pass (holds (decides.0 refl)) h
checked why P m j false decides h = decide (fails (λ p. true≢false (sym (decides.1 p))))

abbrev Tells : (ℕ → Type 0) → Option ℕ → Type 0
Tells P None = (n : ℕ) → ¬ P n
Tells P (Some n) = P n

length-tells : (method : Method) (fields : Declared) → Tells (HasLength method fields) (length_for method fields)
length-tells Get Ill = λ n h. elim h [ ]
length-tells Put Ill = λ n h. elim h [ ]
length-tells Post Ill = λ n h. elim h [ ]
length-tells Get Absent = is_empty
length-tells Put Absent = λ n h. elim h [ ]
length-tells Post Absent = λ n h. elim h [ ]
length-tells Get (Given n) = declares
length-tells Put (Given n) = declares
length-tells Post (Given n) = declares

-- the lines of a head from the length on, and from the method on
abbrev from_length : Routed → (ℕ → Type 0) → Order Wanted
from_length at P = find no.Length P >>= λ len. check no.Size (len ≤ limit_of at.0) >> give (record { route = at.0; name = at.1; len = len })

abbrev from_method : List ℕ → Declared → Routed → Order Wanted
from_method method fields at = check (no.Method (method_of at.0)) (method ≡ method_text (method_of at.0)) >> from_length at (HasLength (method_of at.0) fields)

in-length : (at : Routed) (P : ℕ → Type 0) (o : Option ℕ) → Tells P o → from_length at P (said_of_length at.0 at.1 o)
in-length at P None tells = decide (lacks tells)
in-length at P (Some n) tells =
    pass (found tells) (checked no.Size (n ≤ limit_of at.0) (give _) (wanted at.0 at.1 n) (nat_le n (limit_of at.0)) (at-most n (limit_of at.0)) given)

in-method : (method : List ℕ) (fields : Declared) (at : Routed) → from_method method fields at (said_of_route method fields (Some at))
in-method method fields at =
    checked (no.Method (method_of at.0)) (method ≡ method_text (method_of at.0)) (from_length at (HasLength (method_of at.0) fields))
    (said_of_length at.0 at.1 (length_for (method_of at.0) fields)) (bytes_eq method (method_text (method_of at.0)))
    (bytes_eq-Decides method (method_text (method_of at.0)))
    (in-length at (HasLength (method_of at.0) fields) (length_for (method_of at.0) fields) (length-tells (method_of at.0) fields))

abbrev IsSome : Option Routed → Type 0
IsSome None = ⊥
IsSome (Some at) = Unit {0}

abbrev may_write : Option Routed → Bool
may_write None = false
may_write (Some at) = writes at.0

-- the lines of a head from the route on
module _ (target method : List ℕ) (fields : Declared) where
  abbrev from_route : Bool → Order Wanted
  from_route only = find no.Route (IsRouted only target) >>= λ at. from_method method fields at

  no-route : (only : Bool) → route_of target ≡ None → from_route only (Err no.Route)
  no-route only e = decide (lacks (λ at is. subst IsSome (sym is.routed ∙ e) tt))

  served : (at : Routed) → route_of target ≡ Some at → (b : Bool) → writes at.0 ≡ b → from_route true (said_of_route method fields (cond b None (Some at)))
  served at e true w = decide (lacks (λ other is. true≢false (sym w ∙ ap may_write (sym e ∙ is.routed) ∙ is.served refl)))
  served at e false w = pass (found (record { routed = e; served = λ _. w })) (in-method method fields at)

  in-route : (only : Bool) (o : Option Routed) → route_of target ≡ o → from_route only (said_of_route method fields (served_route only o))
  in-route false None e = no-route false e
  in-route true None e = no-route true e
  in-route false (Some at) e = pass (found (record { routed = e; served = λ is. absurd (true≢false (sym is)) })) (in-method method fields at)
  in-route true (Some at) e = served at e (writes at.0) refl

pub head-in-order : (only : Bool) (h : RequestHead) → of_head only h (said_of_head only h)
unfolding said_of_head
head-in-order only h =
    let fields = declared (map name_and_value h.fields) in
    checked no.Head (All IsVisible h.target) (from_route h.target h.method fields only)
    (said_of_route h.method fields (served_route only (route_of h.target))) (list_all is_visible h.target) (visible h.target)
    (in-route h.target h.method fields only (route_of h.target) refl)

-- ---- what follows the head

ends-after : {A : Type 0} (m : Order A) (a : A) (f : A → Order Request) (request : Request) → m (Ok a) → Ends (f a) request → Ends (m >>= f) request
ends-after m a f request h (commands k) = commands (pass h k)
ends-after m a f _ h (refuses k) = refuses (pass h k)

in-body : (route : Route) (name body : List ℕ) (request : Request) → OfBody route name body request → Ends (of_body route name body) request
in-body Batch name body request h = h
in-body Blob name body request h = h
in-body Metadata name body request h = subst (Ends (of_body Metadata name body)) (sym h) (commands given)
in-body Prune name body request h = subst (Ends (of_body Prune name body)) (sym h) (commands given)
in-body Target name body request h = subst (Ends (of_body Target name body)) (sym h) (commands given)

in-rest : (asked : Wanted) (rest : List ℕ) (request : Request) → OfRest (Ok asked) rest request → Ends (of_rest asked rest) request
in-rest asked rest request (inl short) =
    subst (Ends (of_rest asked rest)) (sym short.1) (refuses (decide (fails (λ fits. absurd (omega (arith, short.0, fits))))))
in-rest asked rest request (inr body) =
    ends-after (check no.Body (asked.len ≤ length rest)) tt (λ _. of_body asked.route asked.name (take asked.len rest)) request (holds body.0)
    (in-body asked.route asked.name (take asked.len rest) request body.1)

from-head : (only : Bool) (h : RequestHead) (said : Judged Wanted) (rest : List ℕ) (request : Request)
    → of_head only h said → OfRest said rest request → Ends (of_head only h >>= λ asked. of_rest asked rest) request
from-head only h (Err why) rest request says is = subst (Ends (of_head only h >>= λ asked. of_rest asked rest)) (sym is) (refuses (decide says))
from-head only h (Ok asked) rest request says is = ends-after (of_head only h) asked (λ asked. of_rest asked rest) request says (in-rest asked rest request is)

pub asks-by-head : (only : Bool) (input : List ℕ) (h : RequestHead) (rest : List ℕ) (request : Request)
    → Heads input h rest → OfRest (said_of_head only h) rest request → AsksOf only input request
asks-by-head only input h rest request heads says =
    ends-after (find no.Head (λ (at : RequestHead × List ℕ). Heads input at.0 at.1)) (h, rest) (λ at. of_head only at.0 >>= λ asked. of_rest asked at.1) request
    (found heads) (from-head only h (said_of_head only h) rest request (head-in-order only h) says)

pub asks-by-none : (only : Bool) (input : List ℕ) → HasNoHead input → AsksOf only input (fault no.Head)
asks-by-none only input none = refuses (decide (lacks (λ at heads. none at.0 at.1 heads)))
