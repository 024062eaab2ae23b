use Rattle.std.proofs.Common.{rules, ◌≡◌, ◌<◌, [], ◌∷◌, ◌++◌, length, Some}
use Rattle.std.proofs.lemmas.Option.{IfSome_then}
use Rattle.std.specs.Io.BufRead.{take_through, drop_through, strip_last}
use Rattle.verdicts.specs.declared.case.CaseFault.TheVariants as case_faults
use Rattle.verdicts.specs.Case.{IsCaseFault, words_of}
use Rattle.verdicts.specs.Verdict.{IsAnswer, text_of}
use Rattle.verdicts.proofs.SoFar.{goes_on, stops, Appends-both}
use Rattle.verdicts.proofs.lines.answer_lines.Goals as goal

pub returns-in-Err-NotUnderstood-clause-failure : goal.returns-in-Err-NotUnderstood-clause-failure
returns-in-Err-NotUnderstood-clause-failure g c =
    IfSome_then (g.R.Read.remaining c.args.input.now) c.loop-number.invariant (λ text s.
    let bytes = rw s.is_left at c.in_ok-read_until.ensures.bytes in
    let read : c.read_until.new.buf.items ≡ take_through 10 s.rest = rw c.clear.ensures.items at bytes in
    let some : 0 < length c.read_until.new.buf.items = search rules in
    let bad : IsCaseFault (words_of (strip_last 10 c.read_until.new.buf.items)) case_faults.NotUnderstood =
    rw (c.without_break.ensures, c.deref.ensures.value, c.in-Err-NotUnderstood.field-0-is) at c.in-Err-NotUnderstood.ensures.fault in
    stops text _ _ _ s c.read_until.new.buf.items read some bad)

pub loop-number-preserved : goal.loop-number-preserved
loop-number-preserved g c =
    IfSome_then (g.R.Read.remaining c.args.input.now) c.loop-number.invariant (λ text s.
    let bytes = rw s.is_left at c.in_ok-read_until.ensures.bytes in
    let read : c.read_until.new.buf.items ≡ take_through 10 s.rest = rw c.clear.ensures.items at bytes in
    let some : 0 < length c.read_until.new.buf.items = search rules in
    let left : g.R.Read.remaining c.read_until.new.self ≡ Some (drop_through 10 s.rest) = rw s.is_left at c.in_ok-read_until.ensures.rest in
    let answer : IsAnswer (strip_last 10 c.read_until.new.buf.items) c.in-Ok.verdict =
    rw (c.without_break.ensures, c.deref.ensures.value) at c.in-Ok.ensures.verdict in
    goes_on text _ _ _ s c.read_until.new.buf.items read some _ _ c.in-Ok.verdict left answer (λ printed appended.
    Appends-both _ _ _ printed (text_of c.in-Ok.verdict ++ 10 ∷ []) appended c.in_ok-writeln.ensures.bytes))
