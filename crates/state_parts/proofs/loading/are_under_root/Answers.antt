use Rattle.std.proofs.Common.{sym, None}
use Rattle.metadata.specs.FileViews.{root_file}
use Rattle.trust_rules.specs.State.{IsHeldUnder}
use Rattle.trust_rules.specs.Effects.{last_or}
use Rattle.trust_rules.specs.steps.Loading.{IsBare, laid}
use Rattle.state_parts.specs.Views.{effects_view}
use Rattle.trust_rules.proofs.RootChains.{some_if, if_some, if_none}
use Rattle.state_parts.proofs.loading.are_under_root.Goals as goal

pub is_held-requires-clause-last : goal.is_held-requires-clause-last
is_held-requires-clause-last c = sym c.in-Some.ensures

pub returns-in-Some-clause-some : goal.returns-in-Some-clause-some
returns-in-Some-clause-some c =
    let E = effects_view c.args.files.now in
    λ t. if_some (IsHeldUnder (laid E).trusted) (last_or None E.roots) (root_file c.in-Some.root.now) c.in-Some.ensures (c.is_held.ensures.0 t)

pub returns-in-Some-clause-none : goal.returns-in-Some-clause-none
returns-in-Some-clause-none c =
    let E = effects_view c.args.files.now in
    λ t. if_none (IsBare E) (last_or None E.roots) (root_file c.in-Some.root.now) c.in-Some.ensures

pub returns-in-Some-clause-otherwise : goal.returns-in-Some-clause-otherwise
returns-in-Some-clause-otherwise c =
    let E = effects_view c.args.files.now in
    λ h _. c.is_held.ensures.1 (some_if (IsHeldUnder (laid E).trusted) (last_or None E.roots) (root_file c.in-Some.root.now) c.in-Some.ensures h)
