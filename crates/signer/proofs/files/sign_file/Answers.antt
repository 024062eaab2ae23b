use Rattle.std.proofs.Common.{inl, refl, subst}
use Rattle.sqlite.specs.Held.{state}
use Rattle.lms.specs.Keys.{Pair}
use Rattle.signer.specs.Files.{IsBegunFile}
use Rattle.signer.specs.Messages.{CrashLeavesOf}
use Rattle.signer.proofs.files.sign_file.Goals as goal

pub returns-in-Err-clause-crash : goal.returns-in-Err-clause-crash
returns-in-Err-clause-crash g c clean was trees may = (c.args.book.now.book, inl refl, c.rests.ensures.left clean was trees may)

pub returns-in-Ok-clause-crash : goal.returns-in-Ok-clause-crash
returns-in-Ok-clause-crash g c =
    subst (λ (p : Pair). CrashLeavesOf (state g.S.Store c.args.book.now.conn) (state g.S.Store c.sign_file_with.new.book.conn) (IsBegunFile c.args.book.now.book p.seed p.params c.args.file.now)) c.in-Ok.ensures c.sign_file_with.ensures.crash
