use Rattle.std.proofs.Common.{arith}
use Rattle.std.specs.List.{AllByRecursion}
use Rattle.std.proofs.lemmas.Iterator.Adapters.{YieldsList-from_vec}
use Rattle.std.proofs.lemmas.Iterator.Consumers.{YieldsList-turn}
use Rattle.path_patterns.specs.Grammar.{IsHex}
use Rattle.document_parts.specs.Documents as plain
use Rattle.layout_files.specs.steps.Spelled.{spelled_step}
use Rattle.document_parts.proofs.Named.{each_at}
use Rattle.layout_files.proofs.steps.name_steps.Goals as goal

pub name_step-requires : goal.name_step-requires
name_step-requires c =
    let g = c.into_iter-step-iterator.ensures.into_iter_gives in
    let all = YieldsList-from_vec {s = c.into_iter-step-iterator.result} c.args.spelled.items g.0 (omega (arith, g.1, c.args.spelled.ok.0)) in
    let turn = YieldsList-turn all c.loop-step.yielded c.loop-step.step-iterator c.loop-step.yielded_by c.next.result c.next.new.self c.in-Some.step c.in-Some.is c.next.ensures.steps in
    each_at spelled_step (λ (d : plain.Step). AllByRecursion (IsHex 64) d.rule.keyids) c.args.spelled.items _ c.in-Some.step c.requires turn.0 turn.1
