use Rattle.std.proofs.Common.{String, Global, List, [], map, take, ◌+◌, sym, subst, arith}
use Rattle.std.proofs.lemmas.List.{take_rest}
use Rattle.value_changes.specs.Views.{change_view}
use Rattle.value_changes.specs.declared.changed.Change.{Change}
use Rattle.change_lines.specs.Told.{InPieces, nothing, IsPiece}
use Rattle.change_lines.proofs.Pieces.{one_more}
use Rattle.change_lines.proofs.lines.told.Goals as goal

pub changes-init : goal.changes-init
changes-init c = record {
  within = omega arith;
  pieces = subst (λ (ls : List (String Global)). InPieces [] ls) (sym c.new-lines.ensures.items) nothing;
}

pub changes-preserved : goal.changes-preserved
changes-preserved c =
    let found = c.args.found.now in
    let piece = c.in_ok-piece.piece in
    let is = subst (λ (rest : List Change). IsPiece (map change_view (take piece.count rest)) piece.lines.items) (take_rest found c.changes.count) c.in_ok-piece.ensures.piece in
    record {
      within = omega (arith, c.in_ok-piece.ensures.count.1, c.changes.invariant.within);
      pieces =
          subst (λ (ls : List (String Global)). InPieces (map change_view (take (c.changes.count + piece.count) found)) ls) (sym c.in_ok-append.ensures.items)
          (one_more found c.changes.count piece.count c.changes.lines.items piece.lines.items c.changes.invariant.pieces is);
    }
