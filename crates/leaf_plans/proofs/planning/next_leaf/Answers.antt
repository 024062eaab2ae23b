use Rattle.std.proofs.Common.{◌<◌, ℕ, List, MatchOption, map, subst}
use Rattle.sqlite_rules.specs.Lists.{Has}
use Rattle.keys_roles.specs.Views.{id_text}
use Rattle.leaf_plans.specs.Views.{book_view, kept_view}
use Rattle.leaf_plans.proofs.Deciding.{next_by}
use Rattle.leaf_plans.proofs.planning.next_leaf.Goals as goal

pub returns-in-Some : goal.returns-in-Some
returns-in-Some c =
    let key = id_text c.args.key.now in
    let rows = map kept_view c.args.leaves.now in
    next_by (book_view c.args.signers.now c.args.leaves.now) key c.in-Some.params c.least_unused.result c.in-Some.ensures
    (subst (λ (count : ℕ). MatchOption c.least_unused.result ((n : ℕ) → n < count → (message : List ℕ) × Has rows (record { key = key; leaf = n; message = message }))
    (λ leaf. (leaf < count) × ((message : List ℕ) → Has rows (record { key = key; leaf = leaf; message = message }) → ⊥)
    × ((n : ℕ) → n < leaf → (message : List ℕ) × Has rows (record { key = key; leaf = n; message = message })))) c.leaves_of.ensures.value c.least_unused.ensures)
