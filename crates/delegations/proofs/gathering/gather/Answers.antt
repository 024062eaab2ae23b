use Rattle.std.proofs.Common.{◌≡◌, ◌+◌, ◌≤◌, ℕ, zero, suc, List, [], ◌∷◌, Some, drop, length, map, slice_get, ap, subst, refl, arith}
use Rattle.keys_roles.specs.Views.{verdict_views}
use Rattle.metadata.specs.FileViews.{targets_file}
use Rattle.delegations.specs.Delegation as graph
use Rattle.delegations.specs.Views.{edge_view}
use Rattle.delegations.specs.steps.Gathering.{IsGathered}
use Rattle.delegations.proofs.gathering.gather.Goals as goal

from_there : {A B : Type 0} (f : A → B) (xs : List A) (n : ℕ) (x : A) → slice_get xs n ≡ Some x → drop n (map f xs) ≡ f x ∷ drop (suc n) (map f xs)
from_there f [] n x h = absurd (cc)
from_there f (y ∷ ys) zero x h = let is : y ≡ x = cc in ap (λ z. f z ∷ map f ys) is
from_there f (y ∷ ys) (suc n) x h = from_there f ys n x h

none_there : {A B : Type 0} (f : A → B) (xs : List A) (n : ℕ) → length xs ≤ n → drop n (map f xs) ≡ []
none_there f [] zero h = refl
none_there f [] (suc n) h = refl
none_there f (y ∷ ys) zero h = absurd (omega arith)
none_there f (y ∷ ys) (suc n) h = none_there f ys n (omega arith)

one_on : (n : ℕ) → suc n ≡ n + 1
one_on n = omega arith

pub edges-preserved : goal.edges-preserved
edges-preserved c =
    let file = targets_file c.args.file.now in
    let es : List graph.Edge = map edge_view c.args.edges.now in
    let at : drop c.edges.next es ≡ edge_view c.in-Some.edge ∷ drop (c.edges.next + 1) es =
    subst (λ (n : ℕ). drop c.edges.next es ≡ edge_view c.in-Some.edge ∷ drop n es) (one_on c.edges.next) (from_there edge_view c.args.edges.now c.edges.next c.in-Some.edge c.in-Some.ensures) in
    record {
      sound = c.in_ok-verdicts.ensures.sound;
      distinct = c.in_ok-verdicts.ensures.distinct;
      gathered = λ V there edges.
          c.in_ok-verdicts.ensures.gathered V (drop (c.edges.next + 1) es) there
          (subst (λ (left : List graph.Edge). IsGathered V c.args.role.now file left (verdict_views c.edges.verdicts.items)) at (c.edges.invariant.gathered V there edges));
    }

pub returns : goal.returns
returns c V there edges =
    let file = targets_file c.args.file.now in
    let es : List graph.Edge = map edge_view c.args.edges.now in
    subst (λ (left : List graph.Edge). IsGathered V c.args.role.now file left (verdict_views c.edges.verdicts.items))
    (none_there edge_view c.args.edges.now c.edges.next c.in_default.ensures) (c.edges.invariant.gathered V there edges)
