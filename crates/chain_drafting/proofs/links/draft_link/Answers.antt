use Rattle.std.proofs.Common.{option_map}
use Rattle.canonical_json.specs.Json.{Json}
use Rattle.drafting.proofs.Results.{if_err, if_ok}
use Rattle.drafting.proofs.Rows.{shown}
use Rattle.chain_drafting.specs.Links.{DraftsLink}
use Rattle.chain_drafting.specs.steps.Said.{artifacts_view}
use Rattle.chain_drafting.proofs.LinkFiles.{undrafted}
use Rattle.chain_drafting.proofs.links.draft_link.Goals as goal

pub returns-clause-draft : goal.returns-clause-draft
returns-clause-draft c =
    let after = shown c.put_link.new.members.items in
    if_ok _ _ c.finish_link.result c.finish_link.ensures.ok
    (λ out is. (after, record { before = shown c.in_ok-members.members.items; base = c.in_ok-members.ensures.ok; records = c.in_ok-put_link.ensures }, is))

pub returns-clause-fault : goal.returns-clause-fault
returns-clause-fault c =
    if_err _ _ c.finish_link.result c.finish_link.ensures.err (λ e h.
    undrafted (shown c.put_link.new.members.items) e
    (λ (part : Json). DraftsLink (option_map (λ f. f.now) c.args.begun) c.args.name.now (artifacts_view c.args.materials.now) (artifacts_view c.args.products.now) part) _
    (record { before = shown c.in_ok-members.members.items; base = c.in_ok-members.ensures.ok; records = c.in_ok-put_link.ensures }) h)
