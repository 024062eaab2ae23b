use Rattle.std.proofs.Common.{◌++◌, take, drop, arith, subst, sym, ap, ◌∙◌}
use lib.Seq.{take-add}
use Rattle.std.specs.Io.KnownBytes.{Consumes}
use Rattle.std.proofs.KnownBytes.{Consumes-trans}
use Rattle.http_messages.proofs.head.read_head.Goals as goal

pub loop-spans-preserved : goal.loop-spans-preserved
loop-spans-preserved g c =
    let at = c.loop-spans.filled in
    let n = c.in_ok-count.count in
    record {
      sound = λ h. c.in_ok-count.ensures.sound (c.loop-spans.invariant.sound h);
      within = omega (arith, c.in_ok-count.ensures.fits);
      buffer = omega arith;
      room = omega arith;
      bytes = subst (Consumes _ _)
          (ap (λ l. l ++ take n (drop at c.read_at.new.buf)) (sym c.in_ok-count.ensures.front) ∙ sym (take-add at n c.read_at.new.buf))
          (Consumes-trans _ _ _ _ _ c.loop-spans.invariant.bytes c.in_ok-count.ensures.ok);
    }
