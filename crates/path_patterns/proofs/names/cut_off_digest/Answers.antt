use Rattle.std.proofs.Common.{ℕ, List, length, sym, ap, subst, ◌∙◌, arith}
use Rattle.std.proofs.lemmas.Bool.{eqb-true, eqb-false}
use Rattle.std.proofs.lemmas.Str.Pattern.{strip_prefix_char}
use Rattle.hex.specs.Hex.{encode_lower}
use Rattle.path_patterns.specs.Grammar.{IsHex}
use Rattle.path_patterns.proofs.Digits.{digits_of_digest}
use Rattle.path_patterns.proofs.ConsistentNames.{cut_before_dot, front_of, back_of, if_none, never_some, one_behind, put_together}
use Rattle.path_patterns.proofs.names.cut_off_digest.Goals as goal

pub returns-in_err-digits-clause-none : goal.returns-in_err-digits-clause-none
returns-in_err-digits-clause-none c = if_none c.from_residual.result _ (λ d name is some e.
    never_some c.split_at_checked.result c.in_err-digits.was (c.split_at_checked.ensures.variant.1 (cut_before_dot d name c.args.last.now is e)))

pub returns-in_err-digest-clause-none : goal.returns-in_err-digest-clause-none
returns-in_err-digest-clause-none c = if_none c.from_residual-in_err-digest.result _ (λ d name is some e.
    c.in_err-digest.ensures.none
    (subst (λ (x : List ℕ). IsHex 64 x) (sym (c.in_ok-digits.ensures.front ∙ front_of d name c.args.last.now is e)) (digits_of_digest d is)))

pub returns-in_err-name-clause-none : goal.returns-in_err-name-clause-none
returns-in_err-name-clause-none c = if_none c.from_residual-in_err-name.result _ (λ d name is some e.
    let strip = strip_prefix_char 46 c.in_ok-digits.rest.now c.strip_prefix.result c.strip_prefix.ensures.cases (omega arith) in
    let none = rw c.in_err-name.was at strip in
    none name (c.in_ok-digits.ensures.back ∙ back_of d name c.args.last.now is e))

pub returns-then-is_empty-clause-none : goal.returns-then-is_empty-clause-none
returns-then-is_empty-clause-none c d name is some e =
    let strip = strip_prefix_char 46 c.in_ok-digits.rest.now c.strip_prefix.result c.strip_prefix.ensures.cases (omega arith) in
    let is_name = rw c.in_ok-name.was at strip in
    let same = one_behind c.in_ok-name.name.now name (sym is_name ∙ c.in_ok-digits.ensures.back ∙ back_of d name c.args.last.now is e) in
    let empty = eqb-true (length c.in_ok-name.name.now) 0 (sym c.is_empty.ensures ∙ c.if-is_empty.true) in
    omega (arith, empty, some, ap length same)

pub returns-clause-some : goal.returns-clause-some
returns-clause-some c =
    let strip = strip_prefix_char 46 c.in_ok-digits.rest.now c.strip_prefix.result c.strip_prefix.ensures.cases (omega arith) in
    let is_name = rw c.in_ok-name.was at strip in
    let some = eqb-false (length c.in_ok-name.name.now) 0 (sym c.is_empty.ensures ∙ c.if-is_empty.false) in (
      c.in_ok-digest.ensures.some.0,
      put_together c.args.last.now (encode_lower c.in_ok-digest.digest.0) c.in_ok-name.name.now
          (sym c.in_ok-digits.ensures.front ∙ c.in_ok-digest.ensures.some.2) (sym c.in_ok-digits.ensures.back ∙ is_name),
      omega (arith, some),
    )
