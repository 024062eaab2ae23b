use Rattle.std.proofs.Common.{◌∙◌, arith, sym, subst}
use Rattle.path_patterns.specs.Grammar.{IsName}
use Rattle.cli_repository.proofs.Offering.{has-colon, role-first}
use Rattle.cli_repository.proofs.arguments.document_of.Goals as goal

pub returns-in_default-clause-none : goal.returns-in_default-clause-none
returns-in_default-clause-none c = λ offer file d.
    let lacks = c.in_default.ensures.byte (omega arith) (λ w o h. h) in
    let has = has-colon c.args.argument.now offer file d in
    omega (arith, lacks, has)

pub returns-in-Ok-None-clause-none : goal.returns-in-Ok-None-clause-none
returns-in-Ok-None-clause-none c = λ offer file d.
    let cut = c.in-Some.ensures.byte (omega arith) (λ w o h. h) in
    (rw c.in-Ok-None.field-0-is at c.in-Ok-None.ensures.none) (subst IsName (sym (cut.0 ∙ role-first c.args.argument.now offer file d)) d.name)
