use Rattle.std.proofs.Common.{◌≡◌, ◌+◌, ◌<◌, ℕ, IsTrue, length, sym, ap, ◌∙◌, subst}
use Rattle.delegations.specs.Views.{row_views}
use Rattle.limits.specs.Limits.{most_held}
use Rattle.trusted_state.specs.Views.{draft_view}
use Rattle.trust_rules.proofs.MoreRootsAndRows.{rows_long, views_long}
use Rattle.trusted_state.proofs.draft.Draft.has_room_for_row.Goals as goal

pub returns : goal.returns
returns c =
    let long : length c.rows-rows.result.held.now + length c.rows-rows.result.added.now ≡ length (draft_view c.args.self.now).shelf =
    sym (rows_long (row_views c.rows-rows.result.held.now) (row_views c.rows-rows.result.added.now) ∙ views_long c.rows-rows.result.held.now c.rows-rows.result.added.now) ∙ ap (λ r. length r) c.rows-rows.ensures.view in
    subst (λ (n : ℕ). (IsTrue c.has_room.result → n < most_held) × (n < most_held → IsTrue c.has_room.result)) long c.has_room.ensures
