-- Worked examples, as the definitions have them.
use Rattle.std.proofs.Common.{◌≡◌, ◌≢◌, ℕ, List, codes, sym, subst, arith, refl}
use Rattle.std.proofs.lemmas.Bool.{true≢false}
use Rattle.path_patterns.specs.Grammar.{IsTargetPath, IsName, IsPattern}
use Rattle.path_patterns.specs.Matching.{MatchesSegmented, MatchesFlat}
use Rattle.path_patterns.proofs.Segments.{path_tells}
use Rattle.path_patterns.proofs.Covering.{literal, ended}
use Rattle.path_patterns.proofs.TestLaws.{segmented_tells, flat_tells}

path : IsTargetPath (codes "a/b.tgz")
path = (path_tells (codes "a/b.tgz") (omega arith)).0 refl

no_path : IsTargetPath (codes "a/../b") → ⊥
no_path p = true≢false (sym ((path_tells (codes "a/../b") (omega arith)).1 p))

no_path_at_an_end : IsTargetPath (codes "a/") → ⊥
no_path_at_an_end p = true≢false (sym ((path_tells (codes "a/") (omega arith)).1 p))

name : IsName (codes "a2-_")
name = (refl, refl, omega arith)

no_name : IsName (codes "-a") → ⊥
no_name n = true≢false (sym n.0)

empty_run : MatchesSegmented (codes "*") (codes "")
empty_run = (segmented_tells (codes "*") (codes "")).0 refl

in_a_folder : MatchesSegmented (codes "a/*") (codes "a/b")
in_a_folder = (segmented_tells (codes "a/*") (codes "a/b")).0 refl

not_the_folder : MatchesSegmented (codes "a/*") (codes "a") → ⊥
not_the_folder m = true≢false (sym ((segmented_tells (codes "a/*") (codes "a")).1 m))

no_slash_in_a_run : MatchesSegmented (codes "a/*") (codes "a/b/c") → ⊥
no_slash_in_a_run m = true≢false (sym ((segmented_tells (codes "a/*") (codes "a/b/c")).1 m))

slashes_in_a_flat_run : MatchesFlat (codes "*") (codes "a/b/c")
slashes_in_a_flat_run = (flat_tells (codes "*") (codes "a/b/c")).0 refl

one_byte : MatchesSegmented (codes "?.tgz") (codes "b.tgz")
one_byte = (segmented_tells (codes "?.tgz") (codes "b.tgz")).0 refl

not_no_byte : MatchesSegmented (codes "?.tgz") (codes ".tgz") → ⊥
not_no_byte m = true≢false (sym ((segmented_tells (codes "?.tgz") (codes ".tgz")).1 m))

-- a pattern that covers no path
pattern : IsPattern (codes "a//b")
pattern = (omega arith, omega arith, refl)

covers_none : (path : List ℕ) → IsTargetPath path → MatchesSegmented (codes "a//b") path → ⊥
covers_none path is m =
    let one = literal (λ b. b ≢ 47) 97 (codes "//b") path (λ e. omega arith) (λ e. omega arith) m in
    let two = literal (λ b. b ≢ 47) 47 (codes "/b") one.0 (λ e. omega arith) (λ e. omega arith) one.2 in
    let three = literal (λ b. b ≢ 47) 47 (codes "b") two.0 (λ e. omega arith) (λ e. omega arith) two.2 in
    let four = literal (λ b. b ≢ 47) 98 (codes "") three.0 (λ e. omega arith) (λ e. omega arith) three.2 in
    let rest : four.0 ≡ codes "" = ended (λ b. b ≢ 47) four.0 four.2 in
    let whole : path ≡ codes "a//b" = rw (one.1, two.1, three.1, four.1, rest) refl in
    true≢false (sym ((path_tells (codes "a//b") (omega arith)).1 (subst IsTargetPath whole is)))
