use Rattle.std.proofs.Common.{codes}
use Rattle.canonical_json.specs.View.{view}
use Rattle.document_parts.specs.Bodies.{IsTimestampMeta}
use Rattle.document_parts.proofs.Found.{none_has}
use Rattle.metadata.proofs.timestamp.snapshot_of.Goals as goal

pub returns-in-None : goal.returns-in-None
returns-in-None c m =
    none_has (λ x. IsTimestampMeta x m) (view c.args.signed.now) (view c.in_ok-found.found.now) (codes "meta")
    c.in_ok-found.ensures.only (c.in-None.ensures m)
