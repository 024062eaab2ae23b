use Rattle.std.proofs.Math.Logic.{∥∥₁_map}
use Rattle.sql_tables.proofs.Calls.{IfOk_then}
use Rattle.store.proofs.Reopening.{reopens_either, reopens_reply}
use Rattle.store.specs.Views.{command_view, reply_view}
use Rattle.store.proofs.closing.apply_and_close.Goals as goal

pub returns-clause-before_or_after : goal.returns-clause-before_or_after
returns-clause-before_or_after g c honest there U at left out found finds =
    ∥∥₁_map (c.close.ensures.left honest left out found finds) (λ may. c.applied-result.ensures.crash (c.close.ensures.clean honest) there U at found may)

pub returns-clause-after : goal.returns-clause-after
returns-clause-after g c honest U at left out found finds =
    c.applied-result.ensures.after (c.close.ensures.clean honest) U at found (c.close.ensures.left honest left out found finds)

pub returns-clause-reopened : goal.returns-clause-reopened
returns-clause-reopened g c honest there U at left out found finds =
    reopens_either c.trees_tell_state.ensures.once c.trees_tell_state.ensures.sound c.stays_valid.ensures.steps U (command_view c.args.command) c.args.now found at.state.valid
    (returns-clause-before_or_after g c honest there U at left out found finds)

pub returns-clause-reopened_after : goal.returns-clause-reopened_after
returns-clause-reopened_after g c honest U at left out found finds =
    IfOk_then c.applied-result.result.0 (returns-clause-after g c honest U at left out found finds) (λ reply held.
    reopens_reply c.trees_tell_state.ensures.once c.trees_tell_state.ensures.sound c.stays_valid.ensures.steps U (command_view c.args.command) c.args.now (reply_view reply) found at.state.valid held)
