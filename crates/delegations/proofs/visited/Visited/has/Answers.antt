use Rattle.std.proofs.Common.{◌≡◌, ◌-◌, List, [], ◌∷◌, Bor, map, refl, ap, subst, ◌∙◌, drop, take, bytes_eq, ℕ, ◌||◌}
use Rattle.std.specs.List.{list_any}
use Rattle.std.proofs.lemmas.List.{take_rest}
use Rattle.metadata.specs.File.{Name, has_name}
use Rattle.delegations.proofs.visited.Visited.has.Goals as goal

among : (xs : List (Bor (List ℕ))) (name : Name) → list_any (λ n. bytes_eq n.now name) xs ≡ has_name (map (λ n. n.now) xs) name
among [] name = refl
among (x ∷ xs) name = ap (λ b. bytes_eq x.now name || b) (among xs name)

pub returns : goal.returns
returns c =
    let all : take (32 - c.self.inside.first) (drop c.self.inside.first c.self.inside.names) ≡ drop c.self.inside.first c.self.inside.names =
    subst (λ n. take (n - c.self.inside.first) (drop c.self.inside.first c.self.inside.names) ≡ drop c.self.inside.first c.self.inside.names) c.self.told (take_rest c.self.inside.names c.self.inside.first) in
    c.is_among.ensures ∙ ap (λ ns. list_any (λ n. bytes_eq n.now c.args.role.now) ns) all
    ∙ among (drop c.self.inside.first c.self.inside.names) c.args.role.now ∙ ap (λ ns. has_name ns c.args.role.now) c.self.view_is
