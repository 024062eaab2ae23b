use Rattle.std.proofs.Common.{sym, ◌∙◌, ap}
use Rattle.std.specs.Prelude.{codes}
use Rattle.std.proofs.lemmas.Bool.{true≢false}
use Rattle.std.proofs.lemmas.List.{append_cancel_right}
use Rattle.std.specs.Char.{is_ascii_alphabetic}
use Rattle.std.specs.List.{list_all}
use Rattle.http_fetch.proofs.Pieces.{letters_utf8}
use Rattle.http_fetch.proofs.telling.name_in.Goals as goal

pub returns-then-not-is_of_letters-clause-none : goal.returns-then-not-is_of_letters-clause-none
returns-then-not-is_of_letters-clause-none c = λ name hl e.
    let same = append_cancel_right name c.in_ok-name.name.now (codes "\"}") (sym e ∙ c.in_ok-name.ensures) in
    true≢false (sym hl ∙ ap (list_all is_ascii_alphabetic) same ∙ sym c.is_of_letters.ensures ∙ c.if-not-is_of_letters.true)

pub returns-in_default-clause-none : goal.returns-in_default-clause-none
returns-in_default-clause-none c = λ name hl e.
    c.in_default.ensures.cases.0 (letters_utf8 c.in_ok-name.name.now (sym c.is_of_letters.ensures ∙ c.if-not-is_of_letters.false))
