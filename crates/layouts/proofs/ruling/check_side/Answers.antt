use Rattle.std.proofs.Common.{List, inl, inr, map, refl, subst, sym}
use Rattle.artifact_rules.specs.Faults.{IsRuleFault}
use Rattle.artifact_rules.specs.Views.{links_view}
use Rattle.artifact_rules.specs.declared.faults.RuleFault.{RuleFault}
use Rattle.artifact_rules.specs.declared.faults.RuleFault.TheVariants.{Disallowed, Required, OutOfMemory}
use Rattle.document_parts.specs.Links.{Link}
use Rattle.document_parts.specs.RuleViews.{link_view, rule_view, side_view}
use Rattle.document_parts.specs.Rules.{ArtifactRule, Side}
use Rattle.layouts.specs.Faults.{IsDeniedBy, fault_of}
use Rattle.layouts.specs.Layouts.{hold, forbid, ask, ruled}
use Rattle.layouts.proofs.ruling.check_side.Goals as goal

pub returns-in-Ok : goal.returns-in-Ok
returns-in-Ok c = hold c.in-Ok.ensures.hold

-- what a list of rules is refused for denies the layout
told : (side : Side) (link : Link) (links : List Link) (rules : List ArtifactRule) (fault : RuleFault) → IsRuleFault side link links rules fault
    → IsDeniedBy (ruled links side link rules) (fault_of fault)
told side link links rules (Disallowed j path) is = inr (forbid j path.now is)
told side link links rules (Required j path) is = inr (ask j path.now is)
told side link links rules OutOfMemory is = inl refl

pub returns-in-Err : goal.returns-in-Err
returns-in-Err c =
    let links = links_view c.args.links.now in
    let side = side_view c.args.side in
    let link = link_view c.args.link.now in
    let rules = map rule_view c.args.rules.now in
    rw c.told.ensures (told side link links rules c.in-Err.fault c.in-Err.ensures.fault)
