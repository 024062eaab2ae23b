-- What the code's delegations stand for, and what putting them in does to a signed part.
use Rattle.std.specs.Prelude.{List, map, option_map}
use Rattle.canonical_json.specs.Json.{Json}
use Rattle.drafting.specs.Members.{AlikeBut, Rows}
use Rattle.chain_drafting.specs.Delegations.{Changes, ChangesDelegations, Delegated as Said, HoldsOrLacks, delegation_names}
use Rattle.drafting.specs.steps.Rows.{texts_view}
use Rattle.drafting.specs.steps.Rules.{rule_view}
use Rattle.chain_drafting.specs.declared.delegating.Delegated.{Delegated}
use Rattle.chain_drafting.specs.declared.delegating.DelegationChanges.{DelegationChanges}

abbrev pub delegated_view : Delegated → Said
delegated_view d = record {
  role = d.name.now;
  rule = rule_view d.rule;
  covers = texts_view d.covers.now;
  has_prefixes = d.has_prefixes;
  terminating = d.terminating;
  before = option_map (λ t. t.now) d.before;
}

abbrev pub all_view : List Delegated → List Said
all_view delegated = map delegated_view delegated

abbrev pub delegation_changes_view : DelegationChanges → Changes
delegation_changes_view c = record { undelegated = texts_view c.undelegate.now; delegated = all_view c.delegate.now }

-- the changes come in, and nothing else changes
pub record PutsDelegations (changes : Changes) (before after : Json) : Type 0 where
  pub makes : ChangesDelegations changes before after
  pub others : AlikeBut delegation_names before after

-- the delegations come in, beside what else `delegations` has, or both members go where there are none; nothing else changes
pub record PutsOrDrops (delegated : List Said) (rows : Rows) (inner before after : Json) : Type 0 where
  pub stands : HoldsOrLacks delegated rows inner before after
  pub others : AlikeBut delegation_names before after
