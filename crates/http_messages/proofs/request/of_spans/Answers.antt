use Rattle.std.proofs.Common.{◌≡◌, ℕ, List, map, refl, sym, ap, ◌∙◌, Bool, true, false, cond, Err}
use Rattle.std.specs.List.{list_all}
use Rattle.httparse.specs.Spans.{name_and_value}
use Rattle.http_messages.specs.declared.fields.Declared.{Declared}
use Rattle.http_messages.specs.declared.faults.Fault.TheVariants.{Head}
use Rattle.http_messages.specs.Length.{declared}
use Rattle.http_messages.specs.RouteOf.{route_of}
use Rattle.http_messages.specs.steps.Said.{said_of_head, said_of_route, served_route, is_visible}
use Rattle.http_messages.proofs.request.of_spans.Goals as goal

pub returns-then-not-are_visible : goal.returns-then-not-are_visible
unfolding said_of_head
returns-then-not-are_visible c = λ h at.
    let ill : list_all is_visible h.target ≡ false =
    ap (list_all is_visible) (sym (c.of-target.ensures ∙ at.path)) ∙ sym c.are_visible.ensures ∙ c.if-not-are_visible.true in
    rw ill refl

alike : (only : Bool) (m n : List ℕ) (d e : Declared) (s t : List ℕ) → m ≡ n → d ≡ e → s ≡ t
    → said_of_route m d (served_route only (route_of s)) ≡ said_of_route n e (served_route only (route_of t))
alike only m n d e s t p q r =
    ap (λ x. said_of_route x d (served_route only (route_of s))) p ∙ ap (λ x. said_of_route n x (served_route only (route_of s))) q
    ∙ ap (λ x. said_of_route n e (served_route only (route_of x))) r

pub returns-in-Ok : goal.returns-in-Ok
unfolding said_of_head
returns-in-Ok c = λ h at.
    let well : list_all is_visible h.target ≡ true =
    ap (list_all is_visible) (sym (c.of-target.ensures ∙ at.path)) ∙ sym c.are_visible.ensures ∙ c.if-not-are_visible.false in
    let fields : c.declared_length-fields.result ≡ declared (map name_and_value h.fields) = c.declared_length-fields.ensures ∙ ap declared at.fields in
    c.of_route.ensures
    ∙ alike c.args.reads_only c.of.result.now h.method c.declared_length-fields.result (declared (map name_and_value h.fields)) c.in-Ok.text.now h.target
    (c.of.ensures ∙ at.method) fields (c.in-Ok.ensures.cases.0 ∙ c.of-target.ensures ∙ at.path)
    ∙ sym (ap (λ v. cond v (said_of_route h.method (declared (map name_and_value h.fields)) (served_route c.args.reads_only (route_of h.target))) (Err Head)) well)
