use Rattle.std.proofs.Common.{ℕ, List, ◌∙◌, subst}
use Rattle.canonical_json.specs.View.{view}
use Rattle.metadata.specs.Shape.{IsDocument}
use Rattle.drafting.proofs.Files.{drafted, unshaped}
use Rattle.drafting.proofs.Rows.{shown}
use Rattle.drafting.proofs.finishing.finish.Goals as goal

pub returns-clause-err : goal.returns-clause-err
returns-clause-err c =
    unshaped c.args.kind (shown c.args.members.items) (view c.in_ok-value.value) c.as_slice.result.now c.in-Err.fault c.in_ok-value.ensures
    (c.as_slice.ensures.value ∙ c.in_ok-file.ensures.ok.0) c.in-Err.ensures.err

pub returns-in-Ok-clause-ok : goal.returns-in-Ok-clause-ok
returns-in-Ok-clause-ok c =
    let d = c.in-Ok.ensures.ok in
    drafted c.args.kind (shown c.args.members.items) (view c.in_ok-value.value) c.in_ok-file.file.items d.0 c.one_spelling.ensures.one_value c.in_ok-value.ensures
    c.in_ok-file.ensures.ok.1 (subst (λ (b : List ℕ). IsDocument c.args.kind b d.0) c.as_slice.ensures.value d.1)
