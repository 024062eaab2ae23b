use Rattle.std.proofs.Common.{ℕ, List, sym, subst}
use Rattle.growing_texts.specs.Texts.{Says, on_page, page_text}
use Rattle.growing_texts.proofs.Saying.{then}
use Rattle.growing_texts.proofs.writing.Text.escaped.Goals as goal

pub bytes-preserved : goal.bytes-preserved
bytes-preserved c t h = c.bytes.invariant t
    (subst (λ (rest : List ℕ). Says c.bytes.self t (page_text rest)) (sym c.in-Some.ensures.cases.0)
    (then c.bytes.self c.on_page.new.self t (on_page c.in-Some.byte.now) (page_text c.in-Some.later.now) c.on_page.ensures h))
