use Rattle.std.proofs.Common.{ℕ, List, refl, subst}
use Rattle.drafting.specs.Members.{HasNone}
use Rattle.drafting.specs.Targets.{IsThere}
use Rattle.drafting.proofs.Rows.{shown}
use Rattle.drafting.proofs.roots.see.Goals as goal

pub returns-else-there-clause-err : goal.returns-else-there-clause-err
returns-else-there-clause-err c =
    (refl, subst (λ (n : List ℕ). HasNone (shown c.args.roles.now) n) c.name.ensures (c.is_there-there.ensures.none c.if-there.false))

pub returns-then-there-clause-ok : goal.returns-then-there-clause-ok
returns-then-there-clause-ok c =
    subst (λ (n : List ℕ). IsThere (shown c.args.roles.now) n) c.name.ensures (c.is_there-there.ensures.there c.if-there.true)
