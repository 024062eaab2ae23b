-- The fault of one rule is that of the list.
use Rattle.std.proofs.Common.{◌≡◌, ℕ, ◌<◌, ◌≤◌, List, length, map, Some, slice_get, sym, subst}
use Rattle.document_parts.specs.Links.{Artifacts, Link, side_of}
use Rattle.document_parts.specs.Rules.{Side, ArtifactRule}
use Rattle.document_parts.specs.Sorted.{AreInOrder}
use Rattle.artifact_rules.specs.Faults.{IsRuleFault}
use Rattle.artifact_rules.specs.Rules.{FailsAt, RulesForbid, RulesRequire}
use Rattle.artifact_rules.specs.declared.faults.RuleFault.{RuleFault}
use Rattle.artifact_rules.specs.declared.faults.RuleFault.TheVariants.{Disallowed, Required, OutOfMemory}
use Rattle.artifact_rules.specs.steps.Judging.{IsFaultAt}
use Rattle.artifact_rules.specs.steps.Queue.{IsQueue, Queue}
use Rattle.artifact_rules.proofs.Judging.{forbids_it, requires_it}

module _ (side : Side) (link : Link) (links : List Link) (rs : List ArtifactRule) (queue : Queue)
    (rows : Artifacts) (is : rows ≡ side_of side link) (s : AreInOrder (map (λ e. e.0) rows)) (h : IsQueue side link links rs rows queue)
    (at : ℕ) (few : at ≤ length rs) (before : (i : ℕ) → i < at → FailsAt side link links rs i → ⊥)
    (r : ArtifactRule) (here : slice_get rs at ≡ Some r) where
  pub faulted : (f : RuleFault) → IsFaultAt queue at r f → IsRuleFault side link links rs f
  faulted (Disallowed j path) f =
      subst (λ (n : ℕ). RulesForbid side link links rs n path.now) (sym f.0) (forbids_it side link links rs queue rows is s h at few before r path.now here f.1)
  faulted (Required j path) f =
      subst (λ (n : ℕ). RulesRequire side link links rs n path.now) (sym f.0) (requires_it side link links rs queue rows is s h at few before r path.now here f.1 f.2)
  faulted OutOfMemory f = absurd f
