use Rattle.std.proofs.Common.{◌≡◌, ◌∙◌, List, ap, map}
use Rattle.artifact_rules.specs.Rules.{RulesHold}
use Rattle.artifact_rules.specs.Views.{links_view}
use Rattle.document_parts.specs.Links.{Link}
use Rattle.document_parts.specs.Rules.{ArtifactRule}
use Rattle.document_parts.specs.RuleViews.{link_view, rule_view, side_view}
use Rattle.verdicts.specs.RuleCase.{rule_case_view}
use Rattle.verdicts.proofs.Ruled.{judged_by}
use Rattle.verdicts.proofs.ruling.judged.Goals as goal

pub returns-in-Ok : goal.returns-in-Ok
returns-in-Ok c =
    let links : links_view c.deref-2.result.now ≡ map link_view c.args.case.now.links.items =
    ap links_view c.deref-2.ensures.value ∙ (c.in_ok-links.ensures ∙ ap (map link_view) c.deref.ensures.value) in
    judged_by (rule_case_view c.args.case.now) (link_view c.own_link.result.now) (links_view c.deref-2.result.now) (map rule_view c.args.rules.now)
    (λ (l : Link) (ls : List Link) (rs : List ArtifactRule). RulesHold (side_view c.args.case.now.side) l ls rs)
    c.own_link.ensures c.requires links c.in-Ok.ensures.hold
