use Rattle.std.proofs.Common.{◌≡◌, ◌≤◌, ◌-◌, ◌++◌, suc, length, map, ap, subst, arith}
use Rattle.std.proofs.lemmas.List.{length-map, map-append}
use Rattle.limits.specs.Limits.{most_held}
use Rattle.document_parts.specs.Views.{profile_view}
use Rattle.trust_rules.specs.steps.Stored.{earlier_roots}
use Rattle.trusted_state.proofs.RootRows.{all_there, one_more}
use Rattle.trusted_state.proofs.stored.numbered_earlier.Goals as goal

pub roots-preserved : goal.roots-preserved
roots-preserved c =
    let later = c.in-Some.later.now in
    let many : length c.roots.rest.now ≡ suc (length later) = ap length c.in-Some.ensures.cases.0 in
    let few : length later ≤ most_held = omega (arith, many, c.roots.invariant.few) in
    let number : c.saturating_sub-number.result ≡ c.args.version - suc (length (map (λ b. (profile_view b.0, b.1.items)) later)) =
    simp length-map (omega (arith, many, c.roots.invariant.few, c.saturating_sub-number.ensures)) in
    record {
      few = few;
      same = rw (c.in_ok-push.ensures.items, map-append, c.as_slice.ensures.value)
          (one_more (map (λ r. (r.0, r.1.now)) c.roots.roots.items) (earlier_roots c.args.version (map (λ b. (profile_view b.0, b.1.items)) c.args.earlier.now))
          c.saturating_sub-number.result c.args.version (profile_view c.in-Some.root.now.0, c.in-Some.root.now.1.items) (map (λ b. (profile_view b.0, b.1.items)) later) number
          (subst (λ l. map (λ r. (r.0, r.1.now)) c.roots.roots.items ++ earlier_roots c.args.version (map (λ b. (profile_view b.0, b.1.items)) l)
          ≡ earlier_roots c.args.version (map (λ b. (profile_view b.0, b.1.items)) c.args.earlier.now)) c.in-Some.ensures.cases.0 c.roots.invariant.same));
    }

pub returns : goal.returns
returns c =
    all_there (map (λ r. (r.0, r.1.now)) c.roots.roots.items) (earlier_roots c.args.version (map (λ b. (profile_view b.0, b.1.items)) c.args.earlier.now)) c.args.version
    (map (λ b. (profile_view b.0, b.1.items)) c.roots.rest.now) (simp length-map c.in_default.ensures.cases) c.roots.invariant.same
