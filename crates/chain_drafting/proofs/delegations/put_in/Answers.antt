use Rattle.std.proofs.Common.{◌≡◌, List, take, ap, ◌∙◌, subst}
use Rattle.chain_drafting.specs.Delegations.{front_of}
use Rattle.drafting.specs.Members.{Rows}
use Rattle.chain_drafting.specs.steps.Delegated.{delegated_view}
use Rattle.drafting.specs.steps.Rows.{rows_view}
use Rattle.chain_drafting.proofs.RoleRows.{put_there}
use Rattle.drafting.proofs.Rows.{Row}
use Rattle.chain_drafting.proofs.delegations.put_in.Goals as goal

pub returns : goal.returns
returns c =
    let said = delegated_view c.args.said.now in
    let ms = c.take_own-own.new.list.items in
    let own = c.take_own-own.result in
    let place = c.place_for-place.result in
    let front = subst (λ (l : List Row). take place (rows_view l) ≡ front_of said.before (take own (rows_view l)) (rows_view l)) c.deref.ensures.value c.place_for-place.ensures.place in
    put_there said (rows_view c.args.list.now.items) ms c.insert.new.self.items place (c.in_ok-name.name, c.in_ok-value.value) c.take_own-own.ensures.rest
    (front ∙ ap (λ (x : Rows). front_of said.before x (rows_view ms)) c.take_own-own.ensures.ahead) c.in_ok-insert.ensures.items c.in_ok-name.ensures.ok c.in_ok-value.ensures
