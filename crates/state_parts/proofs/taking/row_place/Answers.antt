use Rattle.std.proofs.Common.{sym}
use Rattle.delegations.specs.Rows.{place_before}
use Rattle.delegations.specs.declared.rows.Row.{Row}
use Rattle.trust_rules.proofs.PutInRoom.{at_first, at_none}
use Rattle.state_parts.proofs.taking.row_place.Goals as goal

pub returns-in-Some-clause-place : goal.returns-in-Some-clause-place
returns-in-Some-clause-place c =
    at_first {X = Row} (λ r. place_before (c.args.role.now, c.args.version) (r.role, r.version)) c.args.shelf.now c.in-Some.at (sym c.in-Some.ensures)

pub returns-in-None-clause-place : goal.returns-in-None-clause-place
returns-in-None-clause-place c =
    at_none {X = Row} (λ r. place_before (c.args.role.now, c.args.version) (r.role, r.version)) c.args.shelf.now (sym c.in-None.ensures)
