use Rattle.std.proofs.Common.{◌≡◌, false, true, map, sym, ap, ◌∙◌}
use Rattle.document_parts.proofs.Elements.{first_alone, first_again}
use Rattle.document_parts.proofs.distinct.are_distinct.Goals as goal

pub returns-then-is_among : goal.returns-then-is_among
returns-then-is_among g c =
    let names = map g.T.Named.name in
    let at = ap names c.in-Some.ensures.cases.0 in
    let other = c.is_among.ensures.0 c.if-is_among.true in (
      λ h. absurd (let e : false ≡ true = h in cc),
      λ d. absurd (first_again (names c.items.rest.now) (names c.in-Some.later.now) (g.T.Named.name c.in-Some.item.now) at other (c.items.invariant.ahead d)),
    )

pub items-preserved : goal.items-preserved
items-preserved g c =
    let names = map g.T.Named.name in
    let at = ap names c.in-Some.ensures.cases.0 in
    let steps = first_alone (names c.items.rest.now) (names c.in-Some.later.now) (g.T.Named.name c.in-Some.item.now) at
    (λ h. let e : false ≡ true = sym c.if-is_among.false ∙ c.is_among.ensures.1 h in absurd (cc)) in
    record { ahead = λ d. steps.0 (c.items.invariant.ahead d); back = λ d. c.items.invariant.back (steps.1 d) }
