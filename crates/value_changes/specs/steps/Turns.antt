-- The parts of two objects or two arrays that are compared, one after the other.
use Rattle.std.specs.Prelude.{ℕ, zero, suc, List, [], ◌∷◌, ◌++◌, Option, Some, None}
use Rattle.std.specs.Cmp.Lexicographic.{slice_cmp}
use Rattle.std.specs.Ordering.{nat_cmp}
use Rattle.std.specs.declared.cmp.Ordering.{Ordering}
use Rattle.std.specs.declared.cmp.Ordering.TheVariants.{Less, Equal, Greater}
use Rattle.canonical_json.specs.Json.{Json, Items, Members, no_members, member}
use Rattle.value_changes.specs.Changes.{Step, at_name, at_index, item_at}
use Rattle.value_changes.specs.Views.{side_view}
use Rattle.value_changes.specs.declared.merging.Turn.{Turn as CodeTurn}

-- what stands at a step on either side
pub record Turn : Type 0 where
  pub step : Step
  pub one : Option Json
  pub other : Option Json

abbrev pub turn_view : CodeTurn → Turn
turn_view t = record {
  step = at_name t.name.now;
  one = side_view t.before;
  other = side_view t.after;
}

abbrev pub before_alone : List ℕ → Json → Turn
before_alone n v = record { step = at_name n; one = Some v; other = None }

abbrev pub after_alone : List ℕ → Json → Turn
after_alone n w = record { step = at_name n; one = None; other = Some w }

abbrev pub both : List ℕ → Json → Json → Turn
both n v w = record { step = at_name n; one = Some v; other = Some w }

abbrev pub all_after : Members → List Turn
all_after no_members = []
all_after (member m w ns) = after_alone m w ∷ all_after ns

abbrev pub by_order : Ordering → List Turn → List Turn → List Turn → List Turn
by_order Less less equal greater = less
by_order Equal less equal greater = equal
by_order Greater less equal greater = greater

-- the first member of the one object, whose later members are merged so, with the members of the other
abbrev pub merged_behind : List ℕ → Json → (Members → List Turn) → Members → List Turn
merged_behind n v later no_members = before_alone n v ∷ later no_members
merged_behind n v later (member m w ns) =
    by_order (slice_cmp nat_cmp n m) (before_alone n v ∷ later (member m w ns)) (both n v w ∷ later ns) (after_alone m w ∷ merged_behind n v later ns)

-- the members of two objects whose names rise, by their names
abbrev pub merged : Members → Members → List Turn
merged no_members ns = all_after ns
merged (member n v ms) ns = merged_behind n v (merged ms) ns

-- the items of two arrays below an index
abbrev pub numbered : Items → Items → ℕ → List Turn
numbered vs ws zero = []
numbered vs ws (suc i) = numbered vs ws i ++ record { step = at_index i; one = item_at i vs; other = item_at i ws } ∷ []
