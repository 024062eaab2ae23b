use Rattle.std.proofs.Common.{arith, sym, ◌∙◌}
use Rattle.lms.specs.Parameters.{chain_count, height}
use Rattle.lms.proofs.Bytes.{AreParts, signature_length, read_spelled, read_one}
use Rattle.lms.proofs.parts.read_signature.Goals as goal
use Rattle.lms.proofs.parts.read_signature.Goals.{then-ots_code-code-via-then-ots_code-code, then-ots_code-code-via-else-ots_code-code+then-lms_code-code, then-ots_code-code-via-else-ots_code-code+else-lms_code-code+then-q-leaves}

pub returns-then-signature-signature_len : goal.returns-then-signature-signature_len
returns-then-signature-signature_len c q r e p is =
    let n = signature_length c.args.lms c.args.ots c.args.signature.now q r e p is in
    c.if-signature-signature_len.true cc

pub returns-then-ots_code-code : goal.returns-then-ots_code-code
returns-then-ots_code-code c q r e p is =
    let n = signature_length c.args.lms c.args.ots c.args.signature.now q r e p is in
    let spelled = read_spelled c.args.signature.now c.word-q.result.0 c.word-q.result.1.now c.word-ots_code.result.0 c.word-ots_code.result.1.now
    c.front.result.0.now c.front.result.1.now c.hashes.result.0.now c.hashes.result.1.now c.word-lms_code.result.0 c.word-lms_code.result.1.now
    c.hashes-2.result.0.now c.hashes-2.result.1.now
    c.word-q.ensures.whole c.word-ots_code.ensures.whole c.front.ensures.whole c.hashes.ensures.whole c.word-lms_code.ensures.whole c.hashes-2.ensures.whole
    (omega arith) in
    let parts : AreParts (chain_count c.args.ots) (height c.args.lms) c.word-q.result.0 c.word-ots_code.result.0 c.front.result.0.now c.hashes.result.0.now c.word-lms_code.result.0 c.hashes-2.result.0.now
    = record {
      q_small = c.word-q.ensures.range;
      ots_small = c.word-ots_code.ensures.range;
      lms_small = c.word-lms_code.ensures.range;
      r_len = c.front.ensures.front_len;
      e_count = c.hashes.ensures.count ∙ c.from.ensures ∙ c.chain_count.ensures;
      e_len = c.hashes.ensures.each;
      p_count = c.hashes-2.ensures.count ∙ c.height.ensures;
      p_len = c.hashes-2.ensures.each;
    } in
    let same = read_one c.args.lms c.args.ots c.args.signature.now q r e p c.word-q.result.0 c.word-ots_code.result.0 c.front.result.0.now c.hashes.result.0.now c.word-lms_code.result.0 c.hashes-2.result.0.now
    is parts spelled in
    elim c.then-ots_code-code.branch [
      | then-ots_code-code-via-then-ots_code-code w ↦ w.if-ots_code-code.true (sym same.same_ots ∙ sym c.code.ensures)
      | then-ots_code-code-via-else-ots_code-code+then-lms_code-code w ↦ w.if-lms_code-code.true (sym same.same_lms ∙ sym w.code-else-ots_code-code.ensures)
      | then-ots_code-code-via-else-ots_code-code+else-lms_code-code+then-q-leaves w ↦ omega (arith, is.leaf, same.same_q, w.leaves.ensures)
    ]
