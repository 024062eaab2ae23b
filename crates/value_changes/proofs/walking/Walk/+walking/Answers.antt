use Rattle.std.proofs.Common.{rules, ◌≡◌, ◌⊎◌, inl, inr, [], Some, map, List, ◌∷◌, ◌++◌, ap, sym, ◌∙◌, arith}
use Rattle.canonical_json.specs.Json.{array, object}
use Rattle.canonical_json.specs.View.{items_view, members_view}
use Rattle.std.proofs.lemmas.List.{map-append}
use Rattle.value_changes.specs.Changes.{HasUnordered, at_name, at_index}
use Rattle.value_changes.specs.steps.Turns.{Turn, turn_view}
use Rattle.value_changes.specs.Views.{step_view}
use Rattle.value_changes.specs.declared.faults.CompareFault.TheVariants.{Unordered}
use Rattle.value_changes.proofs.Places.{unordered_here}
use Rattle.value_changes.proofs.Covering.{same_told}
use Rattle.value_changes.proofs.ByIndex.{count-view}
use Rattle.value_changes.proofs.Parts.{popped, items_unordered, item_least, items_next, items_end, members_unordered, member_least, members_next, still, members_end}
use Rattle.value_changes.proofs.walking.Walk.+walking.Goals as goal
use Rattle.value_changes.proofs.walking.Walk.+walking.Goals.{compare_members-then-not-are_rising-via-then-not-are_rising, compare_members-then-not-are_rising-via-else-not-are_rising+then-not-are_rising-2}

-- the part that comes next among all parts
split : (done : List Turn) {all rest later : List Turn} {t : Turn} → rest ≡ t ∷ later → done ++ rest ≡ all → done ++ t ∷ later ≡ all
split done next_ is = ap (λ ts. done ++ ts) (sym next_) ∙ is

pub compare-returns-in-Same-clause-told : goal.compare-returns-in-Same-clause-told
compare-returns-in-Same-clause-told t c = same_told _ _ _ _ c.in-Same.ensures

pub compare_items-compare-requires : goal.compare_items-compare-requires
compare_items-compare-requires t c =
    let least = item_least (items_view c.args.before.now) c.items.index _ c.item_of.ensures in
    search rules

pub compare_items-returns-in_err-compare-clause-unordered :
    goal.compare_items-returns-in_err-compare-clause-unordered
compare_items-returns-in_err-compare-clause-unordered t c =
    let more : c.in_err-compare.field-0.0 ≡ Unordered → HasUnordered (Some (array (items_view c.args.before.now))) ⊎ HasUnordered (Some (array (items_view c.args.after.now))) =
    λ e. items_unordered _ _ c.items.index _ _ c.item_of.ensures c.item_of-in-items.ensures (c.in_err-compare.ensures.unordered e) in
    search rules

pub compare_items-items-preserved : goal.compare_items-items-preserved
compare_items-items-preserved t c =
    let held = c.items.invariant.place in
    let pushed = c.in_ok-push.ensures.items in
    record {
      place = popped c.items.self.place.items c.compare.new.self.place.items _ _ _ (c.in_ok-compare.ensures.place ∙ pushed) c.compare.new.self.place.ok.0 c.pop.ensures.rest ∙ held;
      told = items_next (items_view c.args.before.now) (items_view c.args.after.now) c.items.index _ _ _ _ _ _ _ c.item_of.ensures c.item_of-in-items.ensures
          (ap (map step_view) pushed ∙ map-append step_view c.items.self.place.items _ ∙ ap (λ p. map step_view p ++ at_index c.items.index ∷ []) held) c.items.invariant.told c.in_ok-compare.ensures.told;
    }

pub compare_items-returns-clause-told : goal.compare_items-returns-clause-told
compare_items-returns-clause-told t c =
    let left = count-view c.args.before.now in
    let right = count-view c.args.after.now in
    items_end (items_view c.args.before.now) (items_view c.args.after.now) c.items.index _ _ _ (omega arith) (omega arith) c.items.invariant.told

pub compare_members-returns-then-not-are_rising-clause-unordered :
    goal.compare_members-returns-then-not-are_rising-clause-unordered
compare_members-returns-then-not-are_rising-clause-unordered t c _ =
    elim c.then-not-are_rising.branch [
      | compare_members-then-not-are_rising-via-then-not-are_rising w ↦ inl (unordered_here _ w.if-not-are_rising.ensures)
      | compare_members-then-not-are_rising-via-else-not-are_rising+then-not-are_rising-2 w ↦ inr (unordered_here _ w.if-not-are_rising-2.ensures)
    ]

pub compare_members-compare-requires : goal.compare_members-compare-requires
compare_members-compare-requires t c =
    let least = member_least _ _ c.if-not-are_rising.ensures c.if-not-are_rising-2.ensures _ _ (turn_view c.in-Some.turn) (split _ c.in-Some.ensures c.members.invariant.done.1) in
    search rules

pub compare_members-returns-in_err-compare-clause-unordered :
    goal.compare_members-returns-in_err-compare-clause-unordered
compare_members-returns-in_err-compare-clause-unordered t c =
    let more : c.in_err-compare.field-0.0 ≡ Unordered → HasUnordered (Some (object (members_view c.args.before.now))) ⊎ HasUnordered (Some (object (members_view c.args.after.now))) =
    λ e. members_unordered _ _ c.if-not-are_rising.ensures c.if-not-are_rising-2.ensures _ _ (turn_view c.in-Some.turn) (split _ c.in-Some.ensures c.members.invariant.done.1) (c.in_err-compare.ensures.unordered e) in
    search rules

pub compare_members-members-preserved : goal.compare_members-members-preserved
compare_members-members-preserved t c =
    let held = c.members.invariant.place in
    let pushed = c.in_ok-push.ensures.items in
    let parts = c.members.invariant.done in
    let here = split parts.0 c.in-Some.ensures parts.1 in
    record {
      place = popped c.members.self.place.items c.compare.new.self.place.items _ _ _ (c.in_ok-compare.ensures.place ∙ pushed) c.compare.new.self.place.ok.0 c.pop.ensures.rest ∙ held;
      done = (
        parts.0 ++ turn_view c.in-Some.turn ∷ [],
        still _ _ c.if-not-are_rising.ensures c.if-not-are_rising-2.ensures _ _ (turn_view c.in-Some.turn) here,
        members_next _ _ c.if-not-are_rising.ensures c.if-not-are_rising-2.ensures _ _ (turn_view c.in-Some.turn) here _ _ _ _ _
            (ap (map step_view) pushed ∙ map-append step_view c.members.self.place.items _ ∙ ap (λ p. map step_view p ++ at_name c.in-Some.turn.name.now ∷ []) held) parts.2 c.in_ok-compare.ensures.told,
      );
    }

pub compare_members-returns-clause-told : goal.compare_members-returns-clause-told
compare_members-returns-clause-told t c =
    let parts = c.members.invariant.done in
    members_end _ _ parts.0 _ _ _ _ c.if-not-are_rising.ensures c.if-not-are_rising-2.ensures c.in_default.ensures parts.1 parts.2
