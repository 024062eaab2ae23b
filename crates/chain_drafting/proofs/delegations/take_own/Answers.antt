use Rattle.std.proofs.Common.{◌≡◌, ◌≤◌, List, length, take, subst}
use Rattle.chain_drafting.specs.Delegations.{ahead_of}
use Rattle.drafting.specs.steps.Rows.{rows_view}
use Rattle.chain_drafting.proofs.RoleRows.{own_taken}
use Rattle.drafting.proofs.Rows.{Row}
use Rattle.chain_drafting.proofs.delegations.take_own.Goals as goal

pub returns-clause-within : goal.returns-clause-within
returns-clause-within c =
    let own = c.place_of-own.result in
    let role = c.args.role.now in
    (own_taken role c.args.list.now.items c.take_out.new.members.items own (subst (λ (l : List Row). own ≤ length l) c.deref.ensures.value c.place_of-own.ensures.within)
    (subst (λ (l : List Row). take own (rows_view l) ≡ ahead_of role (rows_view l)) c.deref.ensures.value c.place_of-own.ensures.ahead) c.take_out.ensures.rest).0

pub returns-clause-ahead : goal.returns-clause-ahead
returns-clause-ahead c =
    let own = c.place_of-own.result in
    let role = c.args.role.now in
    (own_taken role c.args.list.now.items c.take_out.new.members.items own (subst (λ (l : List Row). own ≤ length l) c.deref.ensures.value c.place_of-own.ensures.within)
    (subst (λ (l : List Row). take own (rows_view l) ≡ ahead_of role (rows_view l)) c.deref.ensures.value c.place_of-own.ensures.ahead) c.take_out.ensures.rest).1
