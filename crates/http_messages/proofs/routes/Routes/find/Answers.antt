use Rattle.std.proofs.Common.{◌≡◌, Option, Some, None, refl, sym, ap, ◌∙◌, arith}
use Rattle.std.specs.Prelude.{option_map}
use Rattle.matchit.specs.Seek.{first}
use Rattle.http_messages.specs.RouteOf.{Routed, route_of}
use Rattle.http_messages.proofs.RouteLemmas.{first-route, text-of, with-rest}
use Rattle.http_messages.proofs.routes.Routes.find.Goals as goal

pub returns-in-Ok : goal.returns-in-Ok
returns-in-Ok c =
    let text = text-of c.args.target.now (λ k. omega (arith, c.type_inv.target k)) in
    c.rest_of.ensures ∙ with-rest c.args.target.now _ (sym (first-route c.args.target.now text) ∙ ap (λ rs. option_map (λ r. r.value) (first rs c.args.target.now)) (sym c.args.self.now.complete) ∙ ap (option_map (λ r. r.value)) c.in-Ok.ensures.found)

no-route : (o : Option Routed) → option_map (λ r. r.0) o ≡ None → None ≡ o
no-route None e = refl
no-route (Some r) e = let no : ⊥ = cc in absurd no

pub returns-in-Err : goal.returns-in-Err
returns-in-Err c =
    let text = text-of c.args.target.now (λ k. omega (arith, c.type_inv.target k)) in
    no-route (route_of c.args.target.now) (sym (first-route c.args.target.now text) ∙ ap (λ rs. option_map (λ r. r.value) (first rs c.args.target.now)) (sym c.args.self.now.complete) ∙ ap (option_map (λ r. r.value)) c.in-Err.ensures.missing)
