use Rattle.std.proofs.Common.{rules, ◌≡◌}
use Rattle.document_parts.specs.RuleViews.{match_view}
use Rattle.artifact_rules.specs.Rules.{path_in}
use Rattle.artifact_rules.proofs.Matching.{concerned}
use Rattle.artifact_rules.proofs.taking.concerns.Goals as goal

pub returns-in-Some : goal.returns-in-Some
returns-in-Some c =
    let m = match_view c.args.rule.now in
    let here : c.args.path.now ≡ path_in m.from c.in-Some.rest.now = search rules in
    concerned m c.args.path.now c.in-Some.rest.now here c.matches_flat_text.result c.matches_flat_text.ensures
