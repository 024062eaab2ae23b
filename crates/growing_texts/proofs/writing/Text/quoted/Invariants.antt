use Rattle.std.proofs.Common.{[], ◌∷◌, ◌++◌, length, map}
use Rattle.std.specs.List.{concat}
use Rattle.growing_texts.specs.Texts.{Says, in_quotes, json_text}
use Rattle.growing_texts.specs.declared.writing.Text.{Text}
use Rattle.growing_texts.proofs.writing.Text.quoted.Given as goal

abbrev pub invariant-bytes : goal.invariant-bytes
invariant-bytes l = (t : Text) → Says l.self t (concat (map in_quotes l.rest) ++ 34 ∷ []) → Says l.fn.self t (l.lead ++ json_text l.text)

abbrev pub decreases-bytes : goal.decreases-bytes
decreases-bytes l = length l.rest
