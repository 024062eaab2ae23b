use Rattle.std.proofs.Common.{take, arith, length-drop}
use Rattle.std.proofs.lemmas.List.{length-take, take_all}
use Rattle.http_fetch.specs.Reply.{cut}
use Rattle.http_fetch.proofs.Replying.{replied_by, took_reply, without_head}
use Rattle.http_fetch.proofs.fetching.read_reply.Goals as goal

pub returns-in-Ok-default-Some-clause-answers : goal.returns-in-Ok-default-Some-clause-answers
returns-in-Ok-default-Some-clause-answers g c =
    let head = rw c.in-Ok-default-Some.field-0-1-is at c.in-Ok-default-Some.ensures.head in
    replied_by _ _ _ _ (take c.in-Ok-default-Some.filled c.read_head.new.buf) _ _ _ _ c.in-Ok-default-Some.ensures.bytes head (take_all _ _ (simp length-drop (omega arith))) c.in-Ok-default-Some.ensures.sound c.read_body.ensures.reads

pub returns-in-Ok-default-None-clause-answers : goal.returns-in-Ok-default-None-clause-answers
returns-in-Ok-default-None-clause-answers g c =
    let head = rw c.in-Ok-default-None.field-0-1-is at c.in-Ok-default-None.ensures.head in
    without_head _ _ _ _ _ c.in-Ok-default-None.ensures.bytes head

pub returns-in-Err-clause-answers : goal.returns-in-Err-clause-answers
returns-in-Err-clause-answers g c = cut c.in-Err.ensures.sound

pub returns-in-Ok-default-Some-clause-took : goal.returns-in-Ok-default-Some-clause-took
returns-in-Ok-default-Some-clause-took g c =
    let head = rw c.in-Ok-default-Some.field-0-1-is at c.in-Ok-default-Some.ensures.head in
    let got = take c.in-Ok-default-Some.filled c.read_head.new.buf in
    took_reply _ _ _ got _ _ _ c.in-Ok-default-Some.ensures.bytes (omega (arith, c.in-Ok-default-Some.ensures.within, length-take c.in-Ok-default-Some.filled c.read_head.new.buf)) head (take_all _ _ (simp length-drop (omega arith))) c.read_body.ensures.took
