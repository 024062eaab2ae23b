use Rattle.std.proofs.Common.{length}
use Rattle.canonical_json.specs.Json.{Json}
use Rattle.drafting.specs.Members.{PutsAll}
use Rattle.drafting.specs.Snapshots.{entries}
use Rattle.drafting.specs.steps.Rows.{roles_view}
use Rattle.drafting.proofs.Rows.{shown}
use Rattle.drafting.proofs.snapshots.put_roles.Given as goal

-- what is left to be put comes on top of what was put
abbrev pub invariant-roles : goal.invariant-roles
invariant-roles l =
    (c : Json) → PutsAll (entries (roles_view l.rest)) (shown l.meta.items) c → PutsAll (entries (roles_view l.fn.roles)) (shown l.fn.meta.items) c

abbrev pub decreases-roles : goal.decreases-roles
decreases-roles l = length l.rest
