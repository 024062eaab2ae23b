use Rattle.drafting.proofs.Results.{if_ok}
use Rattle.drafting.proofs.Rows.{shown}
use Rattle.chain_drafting.proofs.references.with_reference.Goals as goal

pub returns-clause-draft : goal.returns-clause-draft
returns-clause-draft c =
    let after = shown c.put_reference.new.members.items in
    if_ok _ _ c.finish.result c.finish.ensures.ok
    (λ out draft. (after, record { before = shown c.in_ok-members.members.items; base = c.in_ok-members.ensures.ok; refers = c.in_ok-put_reference.ensures.ok }, draft))
