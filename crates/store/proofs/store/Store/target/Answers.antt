use Rattle.std.specs.Prelude.{option_map}
use Rattle.sqlite.specs.Held.{state}
use Rattle.store.proofs.Targets.{served, unserved}
use Rattle.store.proofs.store.Store.target.Goals as goal

pub returns-in-Ok-clause-does : goal.returns-in-Ok-clause-does
returns-in-Ok-clause-does g c =
    let asked = option_map (λ d. d.0) c.args.asked in
    served c.args.self.now.kept c.load_target.new.self.kept (state g.S.Store c.args.self.now.conn) (state g.S.Store c.load_target.new.self.conn) c.args.path.now asked c.args.now c.in-Ok.served
    c.rests.ensures.left c.load_target.ensures.same c.load_target.ensures.reads c.in-Ok.ensures.there c.in-Ok.ensures.answer c.in-Ok.ensures.lists

pub returns-in-Err-clause-does : goal.returns-in-Err-clause-does
returns-in-Err-clause-does g c =
    let asked = option_map (λ d. d.0) c.args.asked in
    unserved c.args.self.now.kept (state g.S.Store c.args.self.now.conn) (state g.S.Store c.load_target.new.self.conn) c.args.path.now asked c.args.now c.load_target.new.self.kept c.in-Err.fault
    c.unserved.result c.rests.ensures.left c.load_target.ensures.same c.load_target.ensures.reads c.in-Err.ensures.denial c.in-Err.ensures.answer c.unserved.ensures
