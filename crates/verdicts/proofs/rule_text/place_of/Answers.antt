use Rattle.std.proofs.Common.{rules, ◌≡◌, ◌+◌, ◌<◌, ◌≤◌, length, map}
use Rattle.document_parts.specs.Links.{Link}
use Rattle.document_parts.specs.RuleViews.{link_view}
use Rattle.artifact_rules.proofs.Places.{item_at, one_more, past_all}
use Rattle.verdicts.proofs.rule_text.place_of.Goals as goal

pub returns-then-eq-clause-place : goal.returns-then-eq-clause-place
returns-then-eq-clause-place c =
    let below : c.links.at < length c.args.links.now = search rules in
    (link_view c.index-links-at.result, item_at link_view c.args.links.now c.links.at c.index-links-at.result below c.index-links-at.is, search rules)

pub returns-clause-place : goal.returns-clause-place
returns-clause-place c =
    let P = λ (k : Link). c.args.step.now ≡ k.name in
    let all : length c.args.links.now ≤ c.links.at = search rules in
    past_all link_view P c.args.links.now c.links.at all c.links.invariant.1

pub links-preserved : goal.links-preserved
links-preserved c =
    let P = λ (k : Link). c.args.step.now ≡ k.name in
    let below : c.links.at < length c.args.links.now = search rules in
    let here = item_at link_view c.args.links.now c.links.at c.index-links-at.result below c.index-links-at.is in
    let more : c.links.at + 1 ≤ length c.args.links.now = search rules in
    (more, one_more P (map link_view c.args.links.now) c.links.at (link_view c.index-links-at.result) here c.links.invariant.1 (search rules))
