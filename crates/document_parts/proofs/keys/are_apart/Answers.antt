use Rattle.std.proofs.Common.{◌≡◌, false, true, string_bytes, sym, ap, subst, ◌∙◌}
use Rattle.document_parts.specs.steps.Tables.{spelled_rows, texts_view}
use Rattle.document_parts.proofs.Elements.{SharesTop, top_alone, top_again}
use Rattle.document_parts.proofs.keys.are_apart.Goals as goal

pub returns-then-shares_top : goal.returns-then-shares_top
returns-then-shares_top c =
    let table = spelled_rows c.args.rows.now in
    let later = texts_view c.in-Some.later.now in
    let at = ap texts_view c.in-Some.ensures.cases.0 in
    let other = subst (λ z. SharesTop table z later) c.as_str.ensures.value (c.shares_top.ensures.0 c.if-shares_top.true) in (
      λ h. absurd (let e : false ≡ true = h in cc),
      λ d. absurd (top_again table (texts_view c.ids.rest.now) later (string_bytes c.in-Some.id.now) at other (c.ids.invariant.ahead d)),
    )

pub ids-preserved : goal.ids-preserved
ids-preserved c =
    let table = spelled_rows c.args.rows.now in
    let later = texts_view c.in-Some.later.now in
    let at = ap texts_view c.in-Some.ensures.cases.0 in
    let steps = top_alone table (texts_view c.ids.rest.now) later (string_bytes c.in-Some.id.now) at
    (λ h. let t = c.shares_top.ensures.1 (subst (λ z. SharesTop table z later) (sym c.as_str.ensures.value) h) in
    let e : false ≡ true = sym c.if-shares_top.false ∙ t in
    absurd (cc)) in
    record { ahead = λ d. steps.0 (c.ids.invariant.ahead d); back = λ d. c.ids.invariant.back (steps.1 d) }
