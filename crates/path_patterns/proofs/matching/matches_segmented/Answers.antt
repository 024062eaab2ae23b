use Rattle.std.proofs.Common.{◌≡◌, ◌↔◌, IsTrue, Bool, sym, subst}
use Rattle.path_patterns.specs.Matching.{MatchesSegmented}
use Rattle.path_patterns.specs.Tests as tests
use Rattle.path_patterns.proofs.TestLaws.{segmented_tells}
use Rattle.path_patterns.proofs.matching.matches_segmented.Goals as goal

pub returns : goal.returns
returns c =
    let p = c.args.pattern.now in
    let t = c.args.path.now in
    let is : c.matches.result ≡ tests.matches_segmented p t = cc in
    subst (λ (b : Bool). IsTrue b ↔ MatchesSegmented p t) (sym is) (segmented_tells p t)
