use Rattle.metadata.specs.FileViews.{targets_file}
use Rattle.delegations.specs.Rows.{place_before}
use Rattle.trust_rules.proofs.PutInRoom.{put_in_order}
use Rattle.state_parts.proofs.taking.put_row.Goals as goal

pub returns-clause-rows : goal.returns-clause-rows
returns-clause-rows c =
    rw (c.insert_within.ensures.items, c.row_place-at.ensures.place, c.deref.ensures.value, c.as_str.ensures.value)
    (put_in_order place_before (λ r. ((r.role, r.version), targets_file r.file)) c.args.shelf.now.items c.args.row)
