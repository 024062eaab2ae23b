use Rattle.std.proofs.Common.{◌≡◌, ◌+◌, arith, ap, sym, false, ◌∙◌, subst, length-set}
use Rattle.http_serve.specs.Serving.{ServesBy, one_if_ok}
use Rattle.http_serve.proofs.serve.serve_list.Goals as goal
use Rattle.http_serve.proofs.serve.serve_list.Goals.{then-is_ok, else-is_ok}
use Rattle.http_serve.proofs.Lines.{served-next, rest-next, count-ok, count-err}

pub loop-reader-preserved : goal.loop-reader-preserved
loop-reader-preserved g c =
    let i = c.loop-reader.reader-index in
    let was = c.loop-reader.invariant in
    let counted : c.if-is_ok.count ≡ c.loop-reader.count + one_if_ok c.serve_one-ended.result =
    elim c.if-is_ok.branch [
      | then-is_ok w ↦ w.count-is ∙ ap (λ k. c.loop-reader.count + k) (sym (count-ok _ (sym c.is_ok.ensures.value ∙ w.if-is_ok.true)))
      | else-is_ok w ↦ w.count-is ∙ sym (ap (λ k. c.loop-reader.count + k) (count-err _ (sym c.is_ok.ensures.value ∙ w.if-is_ok.false)) ∙ omega arith)
    ] in
    record {
      count = elim c.if-is_ok.branch [ then-is_ok w ↦ omega arith | else-is_ok w ↦ omega arith ];
      len = length-set _ _ _ ∙ was.len;
      rest = rest-next c.args.connections.now c.loop-reader.connections i _ was.rest;
      served = subst (ServesBy false _ _ _ _) (sym counted)
          (served-next _ _ false c.args.connections.now c.loop-reader.connections i c.now-item.result _ _ _ _ _ c.serve_one-ended.result (omega arith) was.len was.rest was.served c.serve_one-ended.ensures);
    }
