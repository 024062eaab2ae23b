use Rattle.std.proofs.Common.{sym, ap, ◌∙◌, ◌++◌, subst, List, ℕ}
use Rattle.path_patterns.specs.Names.{IsConsistentName}
use Rattle.path_patterns.proofs.ConsistentNames.{named, last_is}
use Rattle.path_patterns.proofs.names.read_asked.Goals as goal

pub returns-in_ok-path-in-None : goal.returns-in_ok-path-in-None
returns-in_ok-path-in-None c = (
  c.in_ok-path-in-None.ensures.ok,
  λ p d name.
      c.in-None.ensures.none d name.name name.is_digest name.not_empty
      (last_is c.args.text.now c.cut_at_last.result.0.now c.cut_at_last.result.1.now p d c.cut_at_last.ensures name),
)

pub returns-in_ok-push_str-in-Some : goal.returns-in_ok-push_str-in-Some
returns-in_ok-push_str-in-Some c =
    let folder = c.cut_at_last.result.0.now in
    let found = c.in-Some.ensures.some in
    subst (λ (path : List ℕ). IsConsistentName c.args.text.now path c.in-Some.digest.0)
    (sym (c.in_ok-push_str-in-Some.ensures.bytes ∙ ap (λ (x : List ℕ). x ++ c.in-Some.name.now) c.in_ok-path-in-Some.ensures.ok))
    (named c.args.text.now folder c.cut_at_last.result.1.now c.in-Some.name.now c.in-Some.digest.0 c.cut_at_last.ensures found.0 found.1 found.2)
