use Rattle.std.proofs.Common.{refl}
use Rattle.std.specs.List.{AllByRecursion}
use Rattle.keys_roles.specs.steps.Counting.{IsIn, IsKept}
use Rattle.keys_roles.specs.Views.{ids_view, rule_view, table_view}
use Rattle.keys_roles.proofs.Staying.{stays, all_kept, all_listed}
use Rattle.keys_roles.proofs.rotation.same_rule.Goals as goal

pub returns-then-old-new : goal.returns-then-old-new
returns-then-old-new c = (λ t. absurd cc, λ same. absurd (c.if-old-new.true same.threshold))

pub returns-then-not-are_kept : goal.returns-then-not-are_kept
returns-then-not-are_kept c = (
  λ t. absurd cc,
  λ same. c.if-not-are_kept.ensures.1 (rw (c.deref.ensures.value, c.deref-2.ensures.value)
      (all_kept (rule_view c.args.old.now) (table_view c.args.old_keys.now) (rule_view c.args.new.now) (table_view c.args.new_keys.now) same)),
)

pub returns : goal.returns
returns c = (
  λ t.
      let kept : AllByRecursion (IsKept (table_view c.args.old_keys.now) (ids_view c.args.new.now.keyids.items) (table_view c.args.new_keys.now)) (ids_view c.args.old.now.keyids.items) =
      rw (← c.deref.ensures.value, ← c.deref-2.ensures.value) (c.if-not-are_kept.ensures.0 refl) in
      let listed : AllByRecursion (IsIn (ids_view c.args.old.now.keyids.items)) (ids_view c.args.new.now.keyids.items) =
      rw (← c.deref-3.ensures.value, ← c.deref-4.ensures.value) (c.are_listed.ensures.0 t) in
      stays (rule_view c.args.old.now) (table_view c.args.old_keys.now) (rule_view c.args.new.now) (table_view c.args.new_keys.now) c.if-old-new.false kept listed,
  λ same. c.are_listed.ensures.1 (rw (c.deref-3.ensures.value, c.deref-4.ensures.value)
      (all_listed (rule_view c.args.old.now) (table_view c.args.old_keys.now) (rule_view c.args.new.now) (table_view c.args.new_keys.now) same)),
)
