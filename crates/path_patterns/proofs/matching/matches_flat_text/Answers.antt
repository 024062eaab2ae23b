use Rattle.std.proofs.Common.{◌≡◌, ◌↔◌, IsTrue, Bool, sym, subst}
use Rattle.path_patterns.specs.Matching.{MatchesFlat}
use Rattle.path_patterns.specs.Tests as tests
use Rattle.path_patterns.proofs.TestLaws.{flat_tells}
use Rattle.path_patterns.proofs.matching.matches_flat_text.Goals as goal

pub returns : goal.returns
returns c =
    let p = c.args.pattern.now in
    let t = c.args.text.now in
    let is : c.matches.result ≡ tests.matches_flat p t = cc in
    subst (λ (b : Bool). IsTrue b ↔ MatchesFlat p t) (sym is) (flat_tells p t)
