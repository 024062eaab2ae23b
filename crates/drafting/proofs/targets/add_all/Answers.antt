use Rattle.std.proofs.Common.{◌≡◌, List, [], ◌∷◌, rules, sym, subst}
use Rattle.drafting.specs.Targets.{AddsAll}
use Rattle.drafting.specs.declared.targets.Addition.{Addition}
use Rattle.drafting.specs.steps.Rows.{addition_view, additions_view}
use Rattle.drafting.proofs.Listings.{adds_more, adds_none}
use Rattle.drafting.proofs.Results.{no_rows}
use Rattle.drafting.proofs.Rows.{shown}
use Rattle.drafting.proofs.targets.add_all.Goals as goal

pub additions-preserved : goal.additions-preserved
additions-preserved c =
    λ d more.
    let m = shown c.additions.targets.items in
    let a = shown c.put_listing.new.targets.items in
    let addition = c.in-Some.addition.now in
    let later = c.in-Some.later.now in
    let is : c.additions.rest.now ≡ addition ∷ later = search rules in
    c.additions.invariant d (subst (λ (r : List Addition). AddsAll (additions_view r) m d) (sym is)
    (adds_more (addition_view addition) (additions_view later) m a d c.in_ok-put_listing.ensures more))

pub returns : goal.returns
returns c =
    let m = shown c.additions.targets.items in
    let none : c.additions.rest.now ≡ [] = no_rows c.additions.rest.now c.in_default.ensures.cases in
    c.additions.invariant m (subst (λ (r : List Addition). AddsAll (additions_view r) m m) (sym none) (adds_none m))
