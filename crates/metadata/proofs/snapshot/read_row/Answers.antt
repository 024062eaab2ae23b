use Rattle.std.proofs.Common.{codes, refl, inr, sym, ◌∙◌, subst}
use Rattle.std.proofs.lemmas.List.{append_cancel_right}
use Rattle.path_patterns.specs.Grammar.{IsName}
use Rattle.metadata.proofs.snapshot.read_row.Goals as goal

pub returns-in_default-read_meta-clause-err : goal.returns-in_default-read_meta-clause-err
returns-in_default-read_meta-clause-err c = inr (refl, λ e. c.in_default-read_meta.ensures e.0.1 e.1.2)

pub returns-in_default-2-clause-err : goal.returns-in_default-2-clause-err
returns-in_default-2-clause-err c =
    let none = rw c.in_default-2.is at c.in_ok-role.ensures.none in
    inr (refl, λ e. none (subst IsName (append_cancel_right e.0.0 c.in-Some.text.now (codes ".json") (sym e.1.0 ∙ c.in-Some.ensures)) e.1.1))
