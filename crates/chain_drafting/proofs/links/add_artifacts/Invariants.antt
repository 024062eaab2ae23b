use Rattle.std.proofs.Common.{length}
use Rattle.canonical_json.specs.Json.{Json}
use Rattle.drafting.specs.Members.{PutsAll}
use Rattle.drafting.proofs.Rows.{shown}
use Rattle.chain_drafting.specs.Links.{artifact_rows}
use Rattle.chain_drafting.specs.steps.Said.{artifacts_view}
use Rattle.chain_drafting.proofs.links.add_artifacts.Given as goal

-- what is left to be put comes on top of what was put
abbrev pub invariant-artifacts : goal.invariant-artifacts
invariant-artifacts l =
    (c : Json) → PutsAll (artifact_rows (artifacts_view l.rest)) (shown l.rows.items) c
    → PutsAll (artifact_rows (artifacts_view l.fn.artifacts)) (shown l.fn.rows.items) c

abbrev pub decreases-artifacts : goal.decreases-artifacts
decreases-artifacts l = length l.rest
