use Rattle.std.proofs.Common.{rules}
use Rattle.canonical_json.proofs.Room.{byte_room, mark_room}
use Rattle.canonical_json.proofs.writer.text.Goals as goal

pub returns-in_err-byte-clause-short : goal.returns-in_err-byte-clause-short
returns-in_err-byte-clause-short c =
    let most = byte_room c.args.out.now c.bytes.out c.args.text.now c.bytes.rest.now c.in-Some.later.now c.in-Some.b.now c.in-Some.ensures.cases.0 c.bytes.invariant.text in
    search rules

pub returns-in_err-push-2-clause-short : goal.returns-in_err-push-2-clause-short
returns-in_err-push-2-clause-short c =
    let most = mark_room c.args.out.now c.bytes.out c.args.text.now c.bytes.rest.now c.in_default.ensures.cases c.bytes.invariant.text in
    search rules
