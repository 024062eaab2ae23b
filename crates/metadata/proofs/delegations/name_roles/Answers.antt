use Rattle.std.proofs.Common.{arith}
use Rattle.std.specs.List.{AllByRecursion}
use Rattle.std.proofs.lemmas.Iterator.Adapters.{YieldsList-from_vec}
use Rattle.std.proofs.lemmas.Iterator.Consumers.{YieldsList-turn}
use Rattle.path_patterns.specs.Grammar.{IsHex}
use Rattle.document_parts.specs.Documents as plain
use Rattle.metadata.specs.steps.Spelled.{spelled_delegation}
use Rattle.document_parts.proofs.Named.{each_at}
use Rattle.metadata.proofs.delegations.name_roles.Goals as goal

pub name_role-requires : goal.name_role-requires
name_role-requires c =
    let g = c.into_iter-role-iterator.ensures.into_iter_gives in
    let all = YieldsList-from_vec {s = c.into_iter-role-iterator.result} c.args.spelled.items g.0 (omega (arith, g.1, c.args.spelled.ok.0)) in
    let turn = YieldsList-turn all c.loop-role.yielded c.loop-role.role-iterator c.loop-role.yielded_by c.next.result c.next.new.self c.in-Some.role c.in-Some.is c.next.ensures.steps in
    each_at spelled_delegation (λ (d : plain.Delegation). AllByRecursion (IsHex 64) d.rule.keyids) c.args.spelled.items _ c.in-Some.role c.requires turn.0 turn.1
