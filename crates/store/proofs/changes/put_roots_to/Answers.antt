use Rattle.std.proofs.Common.{◌≡◌, ◌∙◌, ◌-◌, suc, length, List, ℕ, ap, map, subst, arith}
use Rattle.std.proofs.lemmas.List.{length-map}
use Rattle.metadata.specs.File.{Bytes}
use Rattle.metadata.specs.FileViews.{root_file}
use Rattle.trust_rules.specs.Contents.{profile_number}
use Rattle.repository_tables.specs.Changes.{after_all}
use Rattle.store.specs.steps.Changed.{more_roots, new_roots}
use Rattle.store.proofs.Appending.{after_more, roots_then}
use Rattle.store.proofs.changes.put_roots_to.Goals as goal

pub roots-preserved : goal.roots-preserved
roots-preserved c =
    let fs = map root_file c.in-Some.later.now in
    let many : length c.roots.rest.now ≡ suc (length c.in-Some.later.now) = ap length c.in-Some.ensures.cases.0 in
    let version : c.saturating_sub-version.result ≡ c.args.last - length fs = simp length-map (omega (arith, many, c.roots.invariant.few, c.saturating_sub-version.ensures)) in
    record {
      few = omega (arith, many, c.roots.invariant.few);
      same = λ t.
          let before = after_all c.roots.changes.items t in
          rw (c.in_ok-push.ensures.items)
          (ap (more_roots (new_roots c.args.last fs)) (after_more c.roots.changes.items _ t)
          ∙ (rw (version, c.profile_number-profile.ensures, c.bytes.ensures) (roots_then (c.args.last - length fs, (profile_number (root_file c.in-Some.root.now).body.profile, c.in-Some.root.now.source.bytes)) (new_roots c.args.last fs) before)
          ∙ subst (λ (l : List (ℕ × (ℕ × Bytes))). more_roots l before ≡ more_roots (new_roots c.args.last (map root_file c.args.roots.now)) (after_all c.args.changes.now.items t))
          (ap (λ l. new_roots c.args.last (map root_file l)) c.in-Some.ensures.cases.0) (c.roots.invariant.same t)));
    }
