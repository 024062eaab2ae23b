use Rattle.std.proofs.Common.{◌++◌, length}
use Rattle.growing_texts.specs.Texts.{Says, page_text}
use Rattle.growing_texts.specs.declared.writing.Text.{Text}
use Rattle.growing_texts.proofs.writing.Text.escaped.Given as goal

abbrev pub invariant-bytes : goal.invariant-bytes
invariant-bytes l = (t : Text) → Says l.self t (page_text l.rest) → Says l.fn.self t (l.lead ++ page_text l.text)

abbrev pub decreases-bytes : goal.decreases-bytes
decreases-bytes l = length l.rest
