use Rattle.std.proofs.Common.{◌≡◌, Bool, true, false, refl}
use Rattle.sqlite.specs.Held.{state}
use Rattle.repository_tables.proofs.MakingLemmas.{begins}
use Rattle.repository_tables.proofs.making.put_version.Goals as goal

pub returns-clause-was_open : goal.returns-clause-was_open
returns-clause-was_open g c clean = go (state g.S.Store c.args.tx.now.conn.now).in_transaction refl
  where
    go : (b : Bool) → (state g.S.Store c.args.tx.now.conn.now).in_transaction ≡ b → (state g.S.Store c.args.tx.now.conn.now).is_open ≡ true
    go true within = (c.in_ok-execute.ensures.runs clean within).1.was_open
    go false ended = absurd (let f = (c.in_ok-execute.ensures.ended ended).0 in cc)

pub returns-clause-wrote : goal.returns-clause-wrote
returns-clause-wrote g c clean is_open within schema bare =
    begins (state g.S.Store c.args.tx.now.conn.now) (state g.S.Store c.execute.new.self.conn.now) c.in_ok-execute.field-0 is_open within schema bare (c.in_ok-execute.ensures.runs clean within)
