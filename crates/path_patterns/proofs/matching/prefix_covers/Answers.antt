use Rattle.std.proofs.Common.{◌≡◌, ◌↔◌, IsTrue, Bool, sym, subst}
use Rattle.path_patterns.specs.Matching.{PrefixCovers}
use Rattle.path_patterns.specs.Tests as tests
use Rattle.path_patterns.proofs.TestLaws.{prefix_tells}
use Rattle.path_patterns.proofs.matching.prefix_covers.Goals as goal

pub returns : goal.returns
returns c =
    let p = c.args.prefix.now in
    let t = c.args.path.now in
    let is : c.starts_with.result ≡ tests.prefix_covers p t = cc in
    subst (λ (b : Bool). IsTrue b ↔ PrefixCovers p t) (sym is) (prefix_tells p t)
