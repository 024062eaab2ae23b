use Rattle.store.specs.Views.{command_view}
use Rattle.client.proofs.Composing.{becomes}
use Rattle.client.proofs.OneFile.{not_made, offered, taking_of, undamaged, unoffered}
use Rattle.client.proofs.taking.offer.Goals as goal

pub unmade-requires : goal.unmade-requires
unmade-requires g c = undamaged _ _ (command_view c.command_for-command.result) c.args.now c.in-Err.fault c.in-Err.ensures.makes

pub returns-in-Ok : goal.returns-in-Ok
returns-in-Ok g c =
    offered _ _ (command_view c.command_for-command.result) _ c.args.now c.in-Ok.reply _ c.in-Ok.ensures.makes c.command_for-command.ensures
    (taking_of c.args.purpose.now c.args.file.now) c.judged.ensures

pub returns-in-Err : goal.returns-in-Err
returns-in-Err g c =
    becomes _ _ (unoffered _ _ (command_view c.command_for-command.result) c.args.now c.in-Err.fault c.in-Err.ensures.makes)
    (λ C D same. not_made c.args.now _ C D _ same c.unmade.ensures.unmade)
