-- What the code's changes stand for.
use Rattle.std.specs.Prelude.{Option, option_map, map}
use Rattle.std.specs.Borrow.{Bor}
use Rattle.canonical_json.specs.Json.{Json}
use Rattle.canonical_json.specs.View.{view}
use Rattle.canonical_json.specs.declared.Value.{Value}
use Rattle.value_changes.specs.declared.changed.Step.{Step as CodeStep}
use Rattle.value_changes.specs.declared.changed.Step.TheVariants.{Member, Item}
use Rattle.value_changes.specs.declared.changed.Change.{Change as CodeChange}
use Rattle.value_changes.specs.Changes.{Step, at_name, at_index, Change}

abbrev pub step_view : CodeStep → Step
step_view (Member name) = at_name name.now
step_view (Item index) = at_index index

-- what stands at a place, if anything does
abbrev pub side_view : Option (Bor Value) → Option Json
side_view side = option_map (λ v. view v.now) side

abbrev pub change_view : CodeChange → Change
change_view c = record {
  place = map step_view c.place.items;
  before = side_view c.before;
  after = side_view c.after;
}
