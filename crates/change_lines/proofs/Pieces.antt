-- Changes that are told piece by piece.
use Rattle.std.proofs.Common.{ℕ, ◌+◌, List, ◌++◌, drop, map, take, sym, ap, ◌∙◌, subst}
use Rattle.std.proofs.Math.Seq.{take-add}
use Rattle.std.proofs.lemmas.List.{map-append}
use Rattle.value_changes.specs.Changes.{Change}
use Rattle.value_changes.specs.Views.{change_view}
use Rattle.value_changes.specs.declared.changed.Change.{Change as CodeChange}
use Rattle.change_lines.specs.Told.{InPieces, piece, IsPiece}

pub one_more : {L : Type 0} (found : List CodeChange) (count more : ℕ) (lines told : List L) → InPieces (map change_view (take count found)) lines
    → IsPiece (map change_view (take more (drop count found))) told → InPieces (map change_view (take (count + more) found)) (lines ++ told)
one_more {L} found count more lines told before is =
    subst (λ (cs : List Change). InPieces cs (lines ++ told))
    (sym (ap (map change_view) (take-add count more found) ∙ map-append change_view (take count found) (take more (drop count found))))
    (piece (map change_view (take count found)) (map change_view (take more (drop count found))) lines told before is)
