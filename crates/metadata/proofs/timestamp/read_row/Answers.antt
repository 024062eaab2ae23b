use Rattle.std.proofs.Common.{codes}
use Rattle.canonical_json.specs.View.{view}
use Rattle.document_parts.specs.Parts.{IsMetaFile}
use Rattle.document_parts.proofs.Found.{none_has, just_one}
use Rattle.metadata.proofs.timestamp.read_row.Goals as goal

pub returns-in_default : goal.returns-in_default
returns-in_default c m h =
    let o = just_one (view c.args.value.now) (codes "snapshot.json") h.0 in
    c.in_default.ensures o.0 o.1

pub returns-in-None : goal.returns-in-None
returns-in-None c m h =
    none_has (λ x. IsMetaFile x m) (view c.args.value.now) (view c.in-Some-member_of.found.now) (codes "snapshot.json")
    c.in-Some-member_of.ensures.only (c.in-None.ensures m) h.1
