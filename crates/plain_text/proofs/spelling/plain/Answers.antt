use Rattle.std.proofs.Common.{◌≡◌, ◌∙◌, string_bytes, flat_map, chars, sym, map-id}
use Rattle.std.proofs.lemmas.Iterator.{YieldsList-from_chars}
use Rattle.std.proofs.lemmas.Iterator.Consumers.{YieldsList-end}
use Rattle.std.proofs.lemmas.Str.{IsUtf8-string_bytes}
use Rattle.plain_text.specs.Spelling.{spelling_of}
use Rattle.plain_text.proofs.PlainAnswer.{one_more, written, plain_answer, same_answer}
use Rattle.plain_text.proofs.spelling.plain.Goals as goal

pub loop-c-preserved : goal.loop-c-preserved
loop-c-preserved c = one_more _ _ c.loop-c.yielded c.in-Some.c c.loop-c.invariant c.in_ok-push_spelled.ensures

pub returns : goal.returns
returns c =
    let utf8 = IsUtf8-string_bytes c.loop-c.spelled in
    let done = YieldsList-end (YieldsList-from_chars c.args.text.now c.utf8.text cc) c.loop-c.yielded _ c.loop-c.yielded_by _ _ c.in-None.is c.next.ensures.steps in
    let spelled : chars (string_bytes c.loop-c.spelled) ≡ flat_map spelling_of (chars c.args.text.now) =
    written (string_bytes c.loop-c.spelled) c.args.text.now c.loop-c.yielded utf8 c.loop-c.invariant (sym (map-id c.loop-c.yielded) ∙ done.0) in
    record {
      spelled = spelled;
      plain = plain_answer (string_bytes c.loop-c.spelled) c.args.text.now spelled;
      kept = same_answer (string_bytes c.loop-c.spelled) c.args.text.now utf8 c.utf8.text spelled;
    }
