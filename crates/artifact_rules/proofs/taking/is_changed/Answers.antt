use Rattle.std.proofs.Common.{rules}
use Rattle.document_parts.specs.Links.{HasDigest}
use Rattle.document_parts.specs.RuleViews.{link_view}
use Rattle.artifact_rules.proofs.Changing.{changed_tells}
use Rattle.artifact_rules.proofs.taking.is_changed.Goals as goal

pub returns : goal.returns
returns c =
    let link = link_view c.args.link.now in
    let before : HasDigest link.materials c.args.path.now c.in-Some.before.now.0 = search rules in
    let after : HasDigest link.products c.args.path.now c.in-Some-digest_of.after.now.0 = search rules in
    changed_tells link c.args.path.now c.in-Some.before.now.0 c.in-Some-digest_of.after.now.0 c.is_same.result before after c.is_same.ensures
