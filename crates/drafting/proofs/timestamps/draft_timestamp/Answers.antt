use Rattle.std.proofs.Common.{ℕ, List, Option, option_map, Bor}
use Rattle.document_parts.specs.declared.documents.Kind.TheVariants as kinds
use Rattle.drafting.specs.Drafts.{File, nothing_else}
use Rattle.drafting.specs.Timestamps.{DraftsTimestamp}
use Rattle.drafting.proofs.Parts.{timestamp_part}
use Rattle.drafting.proofs.Refusals.{unfinished}
use Rattle.drafting.proofs.Results.{if_err, if_ok}
use Rattle.drafting.proofs.Rows.{shown}
use Rattle.drafting.proofs.timestamps.draft_timestamp.Goals as goal

abbrev file : Option (Bor (List ℕ)) → Option File
file f = option_map (λ b. b.now) f

pub returns-clause-draft : goal.returns-clause-draft
returns-clause-draft c =
    let held = file c.args.held in
    let begun = file c.args.begun in
    let after = shown c.put_head.new.members.items in
    let made = timestamp_part held begun c.args.terms c.args.snapshot c.in_ok-version.version (shown c.in_ok-members.members.items) (shown c.put.new.members.items) after _ c.in_ok-version.ensures.ok c.in_ok-members.ensures.ok c.in_ok-meta.ensures c.in_ok-put.ensures.puts c.in_ok-put_head.ensures.ok in
    if_ok _ _ c.finish.result c.finish.ensures.ok (λ out draft. (after, made, draft))

pub returns-clause-fault : goal.returns-clause-fault
returns-clause-fault c =
    let held = file c.args.held in
    let begun = file c.args.begun in
    let after = shown c.put_head.new.members.items in
    let made = timestamp_part held begun c.args.terms c.args.snapshot c.in_ok-version.version (shown c.in_ok-members.members.items) (shown c.put.new.members.items) after _ c.in_ok-version.ensures.ok c.in_ok-members.ensures.ok c.in_ok-meta.ensures c.in_ok-put.ensures.puts c.in_ok-put_head.ensures.ok in
    if_err _ _ c.finish.result c.finish.ensures.err (λ e why. unfinished kinds.Timestamp held begun c.args.terms (DraftsTimestamp held begun c.args.terms c.args.snapshot) nothing_else after e made why)
