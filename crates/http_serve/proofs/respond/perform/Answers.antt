use Rattle.std.proofs.Common.{subst}
use Rattle.sqlite.specs.Held.{state}
use Rattle.store.specs.Standing.{seen}
use Rattle.store.specs.Views.{command_view, reply_view}
use Rattle.http_serve.specs.steps.Views.{Told}
use Rattle.http_serve.proofs.Standings.{replied, told, undamaged, untold}
use Rattle.http_serve.proofs.respond.perform.Goals as goal

pub write_reply-requires : goal.write_reply-requires
write_reply-requires g c =
    let (S, at) = c.stands.ensures.somewhere in
    replied _ _ (command_view c.args.command) c.args.now c.in-Ok.reply S at c.requires c.in-Ok.ensures.makes

pub returns-in-Ok-clause-performed : goal.returns-in-Ok-clause-performed
returns-in-Ok-clause-performed g c =
    told (seen c.args.store.now.kept (state g.S.Store c.args.store.now.conn)) (seen c.apply-result.new.self.kept (state g.S.Store c.apply-result.new.self.conn))
    (command_view c.args.command) c.args.now c.in-Ok.reply _ _ c.write_reply.result c.requires c.in-Ok.ensures.makes
    (subst (λ k. Told k (reply_view c.in-Ok.reply) (g.W.Write.contents c.args.writer.now) (g.W.Write.contents c.write_reply.new.writer) c.write_reply.result) c.kind_of-kind.ensures c.write_reply.ensures.told)

pub unmade-requires : goal.unmade-requires
unmade-requires g c =
    undamaged (seen c.args.store.now.kept (state g.S.Store c.args.store.now.conn)) (seen c.apply-result.new.self.kept (state g.S.Store c.apply-result.new.self.conn))
    (command_view c.args.command) c.args.now c.in-Err.fault c.in-Err.ensures.makes

pub returns-in-Err-clause-performed : goal.returns-in-Err-clause-performed
returns-in-Err-clause-performed g c =
    untold (seen c.args.store.now.kept (state g.S.Store c.args.store.now.conn)) (seen c.apply-result.new.self.kept (state g.S.Store c.apply-result.new.self.conn))
    (command_view c.args.command) c.args.now c.in-Err.fault c.unmade.result _ _ _ c.unmade.ensures c.in-Err.ensures.makes
    c.write_fault.ensures.wrote
