use Rattle.std.proofs.Common.{◌++◌, take, ap, sym, ◌∙◌}
use Rattle.std.proofs.KnownBytes.{Appends-trans}
use Rattle.http_messages.proofs.Answered.{on-err}
use Rattle.http_messages.proofs.TakenLemmas.{moves_both, is_empty, took-call, took-second}
use Rattle.http_messages.proofs.line.send_both.Goals as goal

pub loop-first-preserved : goal.loop-first-preserved
loop-first-preserved g c =
    let (taken, stays) = c.loop-first.invariant in
    let (done, split, appended) = taken in
    let rest = c.loop-first.first.now ++ c.loop-first.second.now in
    let n = c.in-Ok.n in (
      (done ++ take n rest, moves_both _ done rest n split ∙ ap (λ l. (done ++ take n rest) ++ l) (sym c.behind.ensures), Appends-trans _ _ _ _ _ appended c.in-Ok.ensures.bytes),
      λ h. (c.in-Ok.ensures.sound (stays h)).0,
    )

pub returns-in-Ok-eq0-clause-err : goal.returns-in-Ok-eq0-clause-err
returns-in-Ok-eq0-clause-err g c =
    let (taken, stays) = c.loop-first.invariant in
    let (done, split, appended) = taken in
    took-call _ _ _ _ done _ c.transmit_both.result split appended c.transmit_both.ensures.bytes

pub returns-in-Ok-eq0-2-clause-err : goal.returns-in-Ok-eq0-2-clause-err
returns-in-Ok-eq0-2-clause-err g c =
    let (taken, stays) = c.loop-first.invariant in
    let (done, split, appended) = taken in
    took-call _ _ _ _ done _ c.transmit_both.result split appended c.transmit_both.ensures.bytes

pub returns-in_err-send_all-clause-err : goal.returns-in_err-send_all-clause-err
returns-in_err-send_all-clause-err g c =
    let (taken, stays) = c.loop-first.invariant in
    let (done, split, appended) = taken in
    on-err c.from_residual.result _ (took-second _ _ _ _ done c.loop-first.first.now c.loop-first.second.now split (is_empty _ _ (c.is_empty.ensures) (c.loop-first-test.false)) appended c.in_err-send_all.ensures.err)
