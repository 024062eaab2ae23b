use Rattle.std.proofs.Common.{refl}
use Rattle.client.proofs.StateSources.{fault_answers, none_answers, some_answers}
use Rattle.client.proofs.from_state.StateSourceSource.fetch.Goals as goal

pub returns-in-Ok-Some : goal.returns-in-Ok-Some
returns-in-Ok-Some c = (refl, some_answers c.args.self.now.server.now.state c.args.self.now.now c.args.name.now c.args.limit c.in-Ok-Some.field-0 c.in-Ok-Some.bytes _ c.in-Ok-Some.field-0-is c.in-Ok-Some.ensures c.within.ensures)

pub returns-in-Ok-None : goal.returns-in-Ok-None
returns-in-Ok-None c = (refl, none_answers c.args.self.now.server.now.state c.args.self.now.now c.args.name.now c.args.limit c.in-Ok-None.field-0 c.in-Ok-None.field-0-is c.in-Ok-None.ensures)

pub returns-in-Err : goal.returns-in-Err
returns-in-Err c = (refl, fault_answers c.args.self.now.server.now.state c.args.self.now.now c.args.name.now c.args.limit c.in-Err.fault c.in-Err.ensures)
