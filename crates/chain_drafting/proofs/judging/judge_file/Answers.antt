use Rattle.std.proofs.Common.{inr, refl}
use Rattle.canonical_json.specs.Json.{array, no_items}
use Rattle.canonical_json.specs.View.{view}
use Rattle.drafting.proofs.Results.{on_ok}
use Rattle.chain_drafting.proofs.judging.judge_file.Goals as goal

pub returns-in-Some-clause-ok : goal.returns-in-Some-clause-ok
returns-in-Some-clause-ok c =
    on_ok _ _ c.judge_part.result c.judge_part.ensures.ok (λ is. (view c.in-Some.field-0-0.now, view c.in-Some.part.now, c.in-Some.ensures, is))

pub returns-in-None-clause-err : goal.returns-in-None-clause-err
returns-in-None-clause-err c = inr (refl, (λ part is h. c.in-None.ensures (array no_items) part is))
