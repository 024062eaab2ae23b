use Rattle.std.proofs.Common.{◌++◌, refl}
use Rattle.std.proofs.KnownBytes.{Keeps-refl}
use Rattle.sqlite.specs.Held.{state}
use Rattle.http_messages.specs.Faults.{fault_response}
use Rattle.http_messages.specs.Head.{left}
use Rattle.http_messages.specs.Received.{request_of}
use Rattle.http_messages.specs.declared.faults.Fault.TheVariants.{Memory}
use Rattle.http_messages.proofs.Asking.{input-is}
use Rattle.http_serve.specs.Serving.{Line, unread}
use Rattle.store.specs.Standing.{seen}
use Rattle.http_serve.proofs.Responding.{ends, of-no-memory, of-read, tells}
use Rattle.http_serve.proofs.Standings.{rests}
use Rattle.http_serve.proofs.serve.serve_one_by.Goals as goal

pub returns-in-Err-Read-clause-told : goal.returns-in-Err-Read-clause-told
returns-in-Err-Read-clause-told g c = (of-read c.in-Err-Read.field-0 _ _ c.in-Err-Read.field-0-is c.in-Err-Read.ensures.sound, refl, Keeps-refl _)

pub returns-in-Err-Read-clause-ended : goal.returns-in-Err-Read-clause-ended
returns-in-Err-Read-clause-ended g c = (of-read c.in-Err-Read.field-0 _ _ c.in-Err-Read.field-0-is c.in-Err-Read.ensures.sound, refl, Keeps-refl _)

pub returns-in-Err-OutOfMemory-clause-told : goal.returns-in-Err-OutOfMemory-clause-told
returns-in-Err-OutOfMemory-clause-told g c =
    let line : Line = record {
      given = g.R.Read.remaining c.args.reader.now;
      held = g.W.Write.contents c.args.writer.now;
      now = c.args.now;
      reads = g.R.Receive.sound c.args.reader.now;
      writes = g.W.Transmit.sound c.args.writer.now;
    } in
    let here = seen c.args.store.now.kept (state g.S.Store c.args.store.now.conn) in
    let (input, is, wants) = of-no-memory c.in-Err-OutOfMemory.field-0 _ c.in-Err-OutOfMemory.field-0-is c.in-Err-OutOfMemory.ensures.memory in
    tells c.args.reads_only line _ here here input (fault_response Memory) _ c.write_fault.result.written c.write_fault.result.answer c.ended.result is
    (unread here wants.wants (rests here))
    c.write_fault.ensures.wrote c.write_fault.ensures.sound c.ended.ensures

pub returns-in-Err-OutOfMemory-clause-ended : goal.returns-in-Err-OutOfMemory-clause-ended
returns-in-Err-OutOfMemory-clause-ended g c = ends c.args.reads_only _ _ _ _ c.ended.result.0 c.ended.result.1 (returns-in-Err-OutOfMemory-clause-told g c)

pub returns-in-Err-clause-told : goal.returns-in-Err-clause-told
returns-in-Err-clause-told g c =
    let line : Line = record {
      given = g.R.Read.remaining c.args.reader.now;
      held = g.W.Write.contents c.args.writer.now;
      now = c.args.now;
      reads = g.R.Receive.sound c.args.reader.now;
      writes = g.W.Transmit.sound c.args.writer.now;
    } in
    let here = seen c.args.store.now.kept (state g.S.Store c.args.store.now.conn) in
    let (gave, consumes, says, wants) = c.in-Ok.ensures.asked in
    tells c.args.reads_only line _ here here (gave ++ left (g.R.Read.remaining c.read_request_of.new.reader)) (fault_response Memory) _
    c.write_fault-in-Err.result.written c.write_fault-in-Err.result.answer c.ended-in-Err.result
    (input-is _ _ gave consumes)
    (unread here (wants c.in-Err.ensures.memory) (rests here))
    c.write_fault-in-Err.ensures.wrote c.write_fault-in-Err.ensures.sound c.ended-in-Err.ensures

pub returns-in-Err-clause-ended : goal.returns-in-Err-clause-ended
returns-in-Err-clause-ended g c = ends c.args.reads_only _ _ _ _ c.ended-in-Err.result.0 c.ended-in-Err.result.1 (returns-in-Err-clause-told g c)

pub returns-clause-told : goal.returns-clause-told
returns-clause-told g c =
    let line : Line = record {
      given = g.R.Read.remaining c.args.reader.now;
      held = g.W.Write.contents c.args.writer.now;
      now = c.args.now;
      reads = g.R.Receive.sound c.args.reader.now;
      writes = g.W.Transmit.sound c.args.writer.now;
    } in
    let (gave, consumes, says, wants) = c.in-Ok.ensures.asked in
    let (text, answers, writes) = c.respond.ensures.responded in
    let input = gave ++ left (g.R.Read.remaining c.read_request_of.new.reader) in
    tells c.args.reads_only line _ _ _ input text _ c.respond.result.written c.respond.result.answer c.ended-2.result (input-is _ _ gave consumes)
    (answers c.args.reads_only input (says (request_of c.in-Ok-asked.asked) c.in-Ok-asked.ensures.asked)) writes c.respond.ensures.sound c.ended-2.ensures

pub returns-clause-ended : goal.returns-clause-ended
returns-clause-ended g c = ends c.args.reads_only _ _ _ _ c.ended-2.result.0 c.ended-2.result.1 (returns-clause-told g c)
