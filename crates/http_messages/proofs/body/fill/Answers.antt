use Rattle.std.proofs.Common.{◌≡◌, ◌≤◌, ◌+◌, ◌++◌, length, take, drop, arith, ap, sym, ◌∙◌, append_assoc, length-append, length-drop, length-take-le}
use lib.Seq.{take-add}
use Rattle.std.proofs.KnownBytes.{Consumes-trans}
use Rattle.http_messages.proofs.body.fill.Goals as goal

pub loop-filled-preserved : goal.loop-filled-preserved
loop-filled-preserved g c =
    let (stays, fits, len, kept) = c.loop-filled.invariant in
    let (gave, consumed, taken, count) = kept in
    let at = c.loop-filled.filled in
    let n = c.in_ok-count.count in
    let new = c.read_at.new.buf in
    let room : at + n ≤ length new = c.in_ok-count.ensures.fits in
    let more = take n (drop at new) in
    let size : length more ≡ n = length-take-le n (drop at new) (simp length-drop (omega (arith, room))) in (
      λ h. c.in_ok-count.ensures.sound (stays h),
      room,
      omega arith,
      (
        gave ++ more,
        Consumes-trans _ _ _ gave more consumed c.in_ok-count.ensures.ok,
        take-add at n new ∙ ap (λ l. l ++ more) (c.in_ok-count.ensures.front ∙ taken) ∙ append_assoc (take c.args.start c.args.buf.now) gave more,
        ap (λ k. at + k) (sym size) ∙ ap (λ k. k + length more) count ∙ omega (arith, length-append gave more),
      ),
    )
