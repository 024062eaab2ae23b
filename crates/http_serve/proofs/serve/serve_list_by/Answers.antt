use Rattle.std.proofs.Common.{◌≡◌, ◌+◌, arith, ap, sym, ◌∙◌, subst, length-set}
use Rattle.http_serve.specs.Serving.{ServesBy, TellsBy, one_if_ok}
use Rattle.http_serve.proofs.serve.serve_list_by.Goals as goal
use Rattle.http_serve.proofs.serve.serve_list_by.Goals.{then-is_ok, else-is_ok}
use Rattle.http_serve.proofs.Lines.{serves, told-next, rest-next, count-ok, count-err}

pub loop-reader-preserved : goal.loop-reader-preserved
loop-reader-preserved g c =
    let i = c.loop-reader.reader-index in
    let was = c.loop-reader.invariant in
    let counted : c.if-is_ok.count ≡ c.loop-reader.count + one_if_ok c.serve_one_by-ended.result.0 =
    elim c.if-is_ok.branch [
      | then-is_ok w ↦ w.count-is ∙ ap (λ k. c.loop-reader.count + k) (sym (count-ok _ (sym c.is_ok.ensures.value ∙ w.if-is_ok.true)))
      | else-is_ok w ↦ w.count-is ∙ sym (ap (λ k. c.loop-reader.count + k) (count-err _ (sym c.is_ok.ensures.value ∙ w.if-is_ok.false)) ∙ omega arith)
    ] in
    record {
      count = elim c.if-is_ok.branch [ then-is_ok w ↦ omega arith | else-is_ok w ↦ omega arith ];
      len = length-set _ _ _ ∙ was.len;
      rest = rest-next c.args.connections.now c.loop-reader.connections i _ was.rest;
      told = subst (TellsBy c.args.reads_only _ _ _ _ _) (sym counted)
          (told-next _ _ _ c.args.reads_only c.args.connections.now c.loop-reader.connections i c.now-item.result _ _ _ _ _ c.serve_one_by-ended.result.0 (omega arith) was.len was.rest was.told
          c.serve_one_by-ended.ensures.told);
      served = subst (ServesBy c.args.reads_only _ _ _ _) (sym counted)
          (serves c.args.reads_only _ _ _ _ _ _
          (told-next _ _ (λ d. d.3) c.args.reads_only c.args.connections.now c.loop-reader.connections i c.now-item.result _ _ _ _ _ c.serve_one_by-ended.result.0 (omega arith) was.len was.rest was.told
          c.serve_one_by-ended.ensures.told));
    }
