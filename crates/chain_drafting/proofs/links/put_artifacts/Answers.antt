use Rattle.std.proofs.Common.{subst}
use Rattle.canonical_json.specs.Json.{Json}
use Rattle.drafting.specs.Members.{Puts, PutsAll}
use Rattle.drafting.proofs.Results.{on_ok}
use Rattle.drafting.proofs.Rows.{shown}
use Rattle.chain_drafting.specs.Links.{artifact_rows}
use Rattle.chain_drafting.specs.steps.Said.{artifacts_view}
use Rattle.chain_drafting.proofs.Within.{inside}
use Rattle.chain_drafting.proofs.links.put_artifacts.Goals as goal

pub returns : goal.returns
returns c =
    let a = shown c.args.members.now.items in
    let b = shown c.take_object-rows.new.members.items in
    let d = shown c.put.new.members.items in
    let new = shown c.add_artifacts.new.rows.items in
    on_ok _ _ c.put.result c.put.ensures.puts (λ put.
    inside c.args.name.now (PutsAll (artifact_rows (artifacts_view c.args.artifacts.now))) a b d (shown c.take_object-rows.result.items) new
    c.take_object-rows.ensures.object c.take_object-rows.ensures.others (subst (λ (x : Json). Puts c.args.name.now x b d) c.object_value.ensures put)
    c.in_ok-add_artifacts.ensures)
