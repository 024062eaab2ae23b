use Rattle.std.proofs.Common.{take, arith, length-drop}
use Rattle.std.proofs.lemmas.List.{length-take, take_all}
use Rattle.http_fetch.specs.Sent.{cut}
use Rattle.http_fetch.proofs.Replying.{body_took, fault_took, took_reply}
use Rattle.http_fetch.proofs.Saying.{body_said, body_unsaid, unsaid_without_head}
use Rattle.http_fetch.proofs.sending.read_answer.Goals as goal

pub returns-in-Ok-clause-answers : goal.returns-in-Ok-clause-answers
returns-in-Ok-clause-answers g c =
    let head = rw c.in-Ok-default-Some.field-0-1-is at c.in-Ok-default-Some.ensures.head in
    body_said _ _ _ _ (g.R.Receive.sound c.read_head.new.reader) (take c.in-Ok-default-Some.filled c.read_head.new.buf) _ _ _ c.in-Ok.body c.in-Ok-default-Some.ensures.bytes head (take_all _ _ (simp length-drop (omega arith))) c.in-Ok.ensures

pub returns-in-Err-read_rest-clause-answers : goal.returns-in-Err-read_rest-clause-answers
returns-in-Err-read_rest-clause-answers g c =
    let head = rw c.in-Ok-default-Some.field-0-1-is at c.in-Ok-default-Some.ensures.head in
    body_unsaid _ _ _ _ _ (take c.in-Ok-default-Some.filled c.read_head.new.buf) _ _ _ c.in-Err-read_rest.fault c.in-Ok-default-Some.ensures.bytes head (take_all _ _ (simp length-drop (omega arith))) c.in-Ok-default-Some.ensures.sound c.in-Err-read_rest.ensures

pub returns-in-Ok-default-None-clause-answers : goal.returns-in-Ok-default-None-clause-answers
returns-in-Ok-default-None-clause-answers g c =
    let head = rw c.in-Ok-default-None.field-0-1-is at c.in-Ok-default-None.ensures.head in
    unsaid_without_head _ _ _ _ _ c.in-Ok-default-None.ensures.bytes head

pub returns-in-Err-clause-answers : goal.returns-in-Err-clause-answers
returns-in-Err-clause-answers g c = cut c.in-Err.ensures.sound

pub returns-in-Ok-clause-took : goal.returns-in-Ok-clause-took
returns-in-Ok-clause-took g c =
    let head = rw c.in-Ok-default-Some.field-0-1-is at c.in-Ok-default-Some.ensures.head in
    let got = take c.in-Ok-default-Some.filled c.read_head.new.buf in
    took_reply _ _ _ got _ _ _ c.in-Ok-default-Some.ensures.bytes (omega (arith, c.in-Ok-default-Some.ensures.within, length-take c.in-Ok-default-Some.filled c.read_head.new.buf)) head (take_all _ _ (simp length-drop (omega arith)))
    (body_took _ _ (g.R.Receive.sound c.read_head.new.reader) _ _ c.in-Ok.body c.in-Ok.ensures)

pub returns-in-Err-read_rest-clause-took : goal.returns-in-Err-read_rest-clause-took
returns-in-Err-read_rest-clause-took g c =
    let head = rw c.in-Ok-default-Some.field-0-1-is at c.in-Ok-default-Some.ensures.head in
    let got = take c.in-Ok-default-Some.filled c.read_head.new.buf in
    took_reply _ _ _ got _ _ _ c.in-Ok-default-Some.ensures.bytes (omega (arith, c.in-Ok-default-Some.ensures.within, length-take c.in-Ok-default-Some.filled c.read_head.new.buf)) head (take_all _ _ (simp length-drop (omega arith)))
    (fault_took _ _ (g.R.Receive.sound c.read_head.new.reader) _ _ c.in-Err-read_rest.fault c.in-Err-read_rest.ensures)
