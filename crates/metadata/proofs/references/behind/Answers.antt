use Rattle.canonical_json.specs.View.{members_view}
use Rattle.document_parts.proofs.Found.{named_first}
use Rattle.metadata.proofs.references.behind.Goals as goal

pub returns-in_default : goal.returns-in_default
returns-in_default c ns named =
    let first = named_first (members_view c.args.members.now) c.args.name.now ns named in
    c.in_default.ensures first.0 first.1 first.2
