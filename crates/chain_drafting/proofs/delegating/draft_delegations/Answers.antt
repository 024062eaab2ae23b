use Rattle.std.proofs.Common.{ℕ, List, Option, option_map, Bor}
use Rattle.document_parts.specs.declared.documents.Kind.TheVariants as kinds
use Rattle.drafting.specs.Drafts.{File}
use Rattle.chain_drafting.specs.Delegations.{DraftsDelegations, IsNotDelegated}
use Rattle.chain_drafting.specs.steps.Delegated.{delegation_changes_view}
use Rattle.chain_drafting.proofs.DelegationParts.{delegations_part}
use Rattle.drafting.proofs.Refusals.{unfinished}
use Rattle.drafting.proofs.Results.{if_err, if_ok}
use Rattle.drafting.proofs.Rows.{shown}
use Rattle.chain_drafting.proofs.delegating.draft_delegations.Goals as goal

abbrev file : Option (Bor (List ℕ)) → Option File
file f = option_map (λ b. b.now) f

pub returns-clause-draft : goal.returns-clause-draft
returns-clause-draft c =
    let held = file c.args.held in
    let begun = file c.args.begun in
    let after = shown c.put_head.new.members.items in
    let made = delegations_part held begun c.args.terms (delegation_changes_view c.args.changes.now) c.in_ok-version.version (shown c.in_ok-members.members.items) (shown c.put_delegations.new.members.items) after c.in_ok-version.ensures.ok c.in_ok-members.ensures.ok c.in_ok-put_delegations.ensures.ok c.in_ok-put_head.ensures.ok in
    if_ok _ _ c.finish.result c.finish.ensures.ok (λ out draft. (after, made, draft))

pub returns-clause-fault : goal.returns-clause-fault
returns-clause-fault c =
    let held = file c.args.held in
    let begun = file c.args.begun in
    let after = shown c.put_head.new.members.items in
    let made = delegations_part held begun c.args.terms (delegation_changes_view c.args.changes.now) c.in_ok-version.version (shown c.in_ok-members.members.items) (shown c.put_delegations.new.members.items) after c.in_ok-version.ensures.ok c.in_ok-members.ensures.ok c.in_ok-put_delegations.ensures.ok c.in_ok-put_head.ensures.ok in
    if_err _ _ c.finish.result c.finish.ensures.err (λ e why. unfinished kinds.Targets held begun c.args.terms (DraftsDelegations held begun c.args.terms (delegation_changes_view c.args.changes.now)) (IsNotDelegated held begun (delegation_changes_view c.args.changes.now)) after e made why)
