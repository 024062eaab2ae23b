use Rattle.std.proofs.Common.{map, ap, rules}
use Rattle.value_changes.specs.Views.{step_view, change_view}
use Rattle.value_changes.proofs.Covering.{told_all}
use Rattle.value_changes.proofs.Proper.{none_unordered, only_memory}
use Rattle.value_changes.proofs.changes.Goals as goal

pub returns-in_err-compare-clause-proper : goal.returns-in_err-compare-clause-proper
returns-in_err-compare-clause-proper c h g =
    let memory = only_memory c.in_err-compare.field-0.0 (λ e. none_unordered _ _ h g (c.in_err-compare.ensures.unordered e)) in
    search rules

pub returns-clause-list : goal.returns-clause-list
returns-clause-list c =
    told_all _ _ _ _ _ _ (ap (map step_view) c.new-walk.ensures.place) (ap (map change_view) c.new-walk.ensures.found) (ap (λ v. map change_view v.items) c.into_found.ensures) c.in_ok-compare.ensures.told
