use Rattle.std.proofs.Common.{rules, ◌+◌, ◌<◌, ◌≤◌, length, map}
use Rattle.document_parts.specs.Rules.{ArtifactRule}
use Rattle.document_parts.specs.RuleViews.{link_view, rule_view, side_view}
use Rattle.artifact_rules.specs.Rules.{Takes}
use Rattle.artifact_rules.specs.Views.{links_view}
use Rattle.artifact_rules.proofs.Places.{item_at, one_more}
use Rattle.artifact_rules.proofs.queue.taken_by.Goals as goal

pub rules-preserved : goal.rules-preserved
rules-preserved c =
    let P = λ (r : ArtifactRule). Takes (side_view c.args.judged.now.side) (link_view c.args.judged.now.link.now) (links_view c.args.judged.now.links.now) r c.args.path.now in
    let below : c.rules.at < length c.args.rules.now = search rules in
    let here = item_at rule_view c.args.rules.now c.rules.at c.index-rules-at.result below c.index-rules-at.is in
    let more : c.rules.at + 1 ≤ length c.args.rules.now = search rules in
    (more, one_more P (map rule_view c.args.rules.now) c.rules.at (rule_view c.index-rules-at.result) here c.rules.invariant.1 (search rules))
