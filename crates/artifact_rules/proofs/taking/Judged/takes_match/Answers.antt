use Rattle.std.proofs.Common.{rules, ◌≡◌, None}
use Rattle.metadata.specs.File.{look_up}
use Rattle.document_parts.specs.Links.{HasDigest, side_of}
use Rattle.document_parts.specs.RuleViews.{link_view, match_view, side_view}
use Rattle.artifact_rules.specs.Views.{links_view}
use Rattle.artifact_rules.proofs.Matching.{listed, unlisted}
use Rattle.artifact_rules.proofs.taking.Judged.takes_match.Goals as goal

pub returns-in-Some : goal.returns-in-Some
returns-in-Some c =
    let side = side_of (side_view c.args.self.now.side) (link_view c.args.self.now.link.now) in
    let here : HasDigest side c.args.path.now c.in-Some.digest.now.0 = search rules in
    listed (match_view c.args.rule.now) side (links_view c.args.self.now.links.now) c.args.path.now c.in-Some.digest.now.0 c.takes_with.result here c.takes_with.ensures

pub returns-in-None : goal.returns-in-None
returns-in-None c =
    let side = side_of (side_view c.args.self.now.side) (link_view c.args.self.now.link.now) in
    let none : look_up side c.args.path.now ≡ None = search rules in
    unlisted (match_view c.args.rule.now) side (links_view c.args.self.now.links.now) c.args.path.now none
