use Rattle.sqlite.specs.Held.{state}
use Rattle.store.proofs.Standings.{reads_keep}
use Rattle.store.proofs.store.Store.is_open.Goals as goal

pub returns-in-Ok-clause-keeps : goal.returns-in-Ok-clause-keeps
returns-in-Ok-clause-keeps g c =
    reads_keep c.args.self.now.kept c.touch.new.self.kept (state g.S.Store c.args.self.now.conn) (state g.S.Store c.touch.new.self.conn) c.touch.ensures.same c.touch.ensures.reads

pub returns-in-Err-OutOfMemory-clause-keeps : goal.returns-in-Err-OutOfMemory-clause-keeps
returns-in-Err-OutOfMemory-clause-keeps g c =
    reads_keep c.args.self.now.kept c.touch.new.self.kept (state g.S.Store c.args.self.now.conn) (state g.S.Store c.touch.new.self.conn) c.touch.ensures.same c.touch.ensures.reads

pub returns-in-Err : goal.returns-in-Err
returns-in-Err g c = record {
  keeps =
      reads_keep c.args.self.now.kept c.touch.new.self.kept (state g.S.Store c.args.self.now.conn) (state g.S.Store c.touch.new.self.conn) c.touch.ensures.same c.touch.ensures.reads;
  «open» = λ clean is. let no : ⊥ = cc in absurd no;
}
