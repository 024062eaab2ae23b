use Rattle.std.proofs.Common.{◌≡◌, false, true, refl, inr, sym, ◌∙◌, arith}
use Rattle.canonical_json.specs.View.{view, items_view}
use Rattle.path_patterns.specs.Grammar.{IsTargetPath}
use Rattle.document_parts.specs.Bodies.{IsTextOf}
use Rattle.document_parts.proofs.Growing.{array_len, items_len}
use Rattle.metadata.proofs.references.read_paths.Goals as goal

pub returns-then-not-are_few-clause-err : goal.returns-then-not-are_few-clause-err
returns-then-not-are_few-clause-err c = inr (
  refl,
  λ t.
      let count = array_len (IsTextOf IsTargetPath) (view c.args.value.now) c.in-Some.items.now t.0 c.in-Some.ensures t.1.0 in
      let few = c.are_few.ensures.1 (omega (arith, count, t.1.1), omega (arith, count, t.1.2)) in
      let e : false ≡ true = sym c.if-not-are_few.true ∙ few in
      absurd (cc),
)

pub returns-clause-ok : goal.returns-clause-ok
returns-clause-ok c =
    let few = c.are_few.ensures.0 c.if-not-are_few.false in
    let count = items_len (IsTextOf IsTargetPath) c.in-Some.items.now c.in_ok-paths.paths.items c.in_ok-paths.ensures.ok in
    ((items_view c.in-Some.items.now, c.in-Some.ensures, c.in_ok-paths.ensures.ok), omega (arith, count, few.0), omega (arith, count, few.1))
