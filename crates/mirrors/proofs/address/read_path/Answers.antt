use Rattle.std.proofs.Common.{length, sym, ◌∙◌, ap, arith}
use Rattle.std.proofs.lemmas.Bool.{eqb-true, eqb-false, true≢false}
use Rattle.std.proofs.lemmas.Str.Pattern.{strip_prefix_char, strip_suffix_char}
use Rattle.mirrors.proofs.Reading.{if_none, no_bytes, at_top, at_slash, at_folder, at_folder_with_slash, no_slash, no_folder, other_folder}
use Rattle.mirrors.proofs.address.read_path.Goals as goal
use Rattle.mirrors.proofs.address.read_path.Goals.{then-is_empty-2-via-then-is_empty-2, then-is_empty-2-via-else-is_empty-2+then-is_target_path}

pub returns-then-is_empty-clause-some : goal.returns-then-is_empty-clause-some
returns-then-is_empty-clause-some c =
    at_top c.args.path.now (no_bytes c.args.path.now (eqb-true (length c.args.path.now) 0 (sym c.is_empty.ensures ∙ c.if-is_empty.true)))

pub returns-else-is_empty-clause-none : goal.returns-else-is_empty-clause-none
returns-else-is_empty-clause-none c =
    let strip = strip_prefix_char 47 c.args.path.now c.strip_prefix.result c.strip_prefix.ensures.cases (omega arith) in
    let none = rw c.in_default.is at strip in
    no_slash c.args.path.now none (λ e. eqb-false (length c.args.path.now) 0 (sym c.is_empty.ensures ∙ c.if-is_empty.false) (ap length e))

pub returns-then-is_empty-2-clause-some : goal.returns-then-is_empty-2-clause-some
returns-then-is_empty-2-clause-some c =
    let strip = strip_prefix_char 47 c.args.path.now c.strip_prefix.result c.strip_prefix.ensures.cases (omega arith) in
    let is = rw c.in-Some.is at strip in
    elim c.then-is_empty-2.branch [
      | then-is_empty-2-via-then-is_empty-2 w ↦ at_slash c.args.path.now c.in-Some.inner.now is (no_bytes c.in-Some.inner.now (eqb-true (length c.in-Some.inner.now) 0 (sym c.is_empty-2.ensures ∙ w.if-is_empty-2.true)))
      | then-is_empty-2-via-else-is_empty-2+then-is_target_path w ↦ at_folder c.args.path.now c.in-Some.inner.now is (w.is_target_path.ensures.0 w.if-is_target_path.true)
    ]

pub returns-in_err-inner-clause-none : goal.returns-in_err-inner-clause-none
returns-in_err-inner-clause-none c =
    let strip = strip_prefix_char 47 c.args.path.now c.strip_prefix.result c.strip_prefix.ensures.cases (omega arith) in
    let is = rw c.in-Some.is at strip in
    let ending = strip_suffix_char 47 c.in-Some.inner.now c.strip_suffix.result c.strip_suffix.ensures.cases (omega arith) in
    let none = rw c.in_err-inner.was at ending in
    if_none c.from_residual.result _
    (no_folder c.args.path.now c.in-Some.inner.now is (λ e. eqb-false (length c.in-Some.inner.now) 0 (sym c.is_empty-2.ensures ∙ c.if-is_empty-2.false) (ap length e))
    (λ h. true≢false (sym (c.is_target_path.ensures.1 h) ∙ c.if-is_target_path.false)) (λ p h e. none p e))

pub returns-then-is_target_path-2-clause-some : goal.returns-then-is_target_path-2-clause-some
returns-then-is_target_path-2-clause-some c =
    let strip = strip_prefix_char 47 c.args.path.now c.strip_prefix.result c.strip_prefix.ensures.cases (omega arith) in
    let is = rw c.in-Some.is at strip in
    let ending = strip_suffix_char 47 c.in-Some.inner.now c.strip_suffix.result c.strip_suffix.ensures.cases (omega arith) in
    let behind = rw c.in_ok-inner.was at ending in
    at_folder_with_slash c.args.path.now c.in-Some.inner.now c.in_ok-inner.inner.now is behind (c.is_target_path-2.ensures.0 c.if-is_target_path-2.true)

pub returns-else-is_target_path-2-clause-none : goal.returns-else-is_target_path-2-clause-none
returns-else-is_target_path-2-clause-none c =
    let strip = strip_prefix_char 47 c.args.path.now c.strip_prefix.result c.strip_prefix.ensures.cases (omega arith) in
    let is = rw c.in-Some.is at strip in
    let ending = strip_suffix_char 47 c.in-Some.inner.now c.strip_suffix.result c.strip_suffix.ensures.cases (omega arith) in
    let behind = rw c.in_ok-inner.was at ending in
    no_folder c.args.path.now c.in-Some.inner.now is (λ e. eqb-false (length c.in-Some.inner.now) 0 (sym c.is_empty-2.ensures ∙ c.if-is_empty-2.false) (ap length e))
    (λ h. true≢false (sym (c.is_target_path.ensures.1 h) ∙ c.if-is_target_path.false))
    (other_folder c.in-Some.inner.now c.in_ok-inner.inner.now behind (λ h. true≢false (sym (c.is_target_path-2.ensures.1 h) ∙ c.if-is_target_path-2.false)))
