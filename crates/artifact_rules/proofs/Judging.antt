-- What is judged of the queue holds of what reaches the rule.
use Rattle.std.proofs.Common.{◌≡◌, ◌≢◌, ℕ, ◌<◌, ◌≤◌, List, length, map, get_or, Some, option_map, slice_get, true, false, nat_lt, inl, inr, refl, sym, ap, subst, ◌∙◌, arith, rules}
use Rattle.std.specs.declared.cmp.Ordering.{Ordering}
use Rattle.std.specs.declared.cmp.Ordering.TheVariants.{Less, Equal, Greater}
use Rattle.std.proofs.lemmas.Bool.{cases_Bool}
use Rattle.std.proofs.lemmas.Cmp.{nat_list_cmp_total, tied_itself}
use Rattle.std.proofs.lemmas.List.{length-map}
use Rattle.std.proofs.lemmas.Map.Keys.{Less-from_sorted}
use Rattle.std.proofs.lemmas.Option.{get_or_from_slice_get, slice_get-map, slice_get_within}
use Rattle.document_parts.specs.Links.{Artifacts, Link, side_of}
use Rattle.document_parts.specs.Rules.{Side, ArtifactRule, create, delete, modify, allow, disallow, require, matching}
use Rattle.document_parts.specs.Sorted.{AreInOrder, compared}
use Rattle.artifact_rules.specs.Rules.{Fails, FailsAt, LeavesForbidden, Reaches, RulesForbid, RulesRequire}
use Rattle.artifact_rules.specs.steps.Judging.{IsForbidden, IsPassed}
use Rattle.artifact_rules.specs.steps.Queue.{FirstLeft, IsQueue, IsTaken, NoneLeft, Queue}
use Rattle.artifact_rules.proofs.Places.{some_once}
use Rattle.artifact_rules.proofs.Reaching.{item, reaches_from, reaches_to, row_of}

-- the names of two rows in order
rises : (rows : Artifacts) (i k : ℕ) (r t : List ℕ × List ℕ) → AreInOrder (map (λ e. e.0) rows) → slice_get rows i ≡ Some r → slice_get rows k ≡ Some t
    → i < k → compared r.0 t.0 ≡ Less
rises rows i k r t s is at low =
    let names = map (λ (e : List ℕ × List ℕ). e.0) rows in
    let long : length names ≡ length rows = length-map rows (λ (e : List ℕ × List ℕ). e.0) in
    let within : k < length rows = slice_get_within rows k t at in
    let below : k < length names = omega (arith, long, within) in
    let less = Less-from_sorted compared names i k r.0 s low below in
    let one = get_or_from_slice_get names i r.0 r.0 (slice_get-map (λ (e : List ℕ × List ℕ). e.0) rows i ∙ ap (option_map (λ (e : List ℕ × List ℕ). e.0)) is) in
    let two = get_or_from_slice_get names k t.0 r.0 (slice_get-map (λ (e : List ℕ × List ℕ). e.0) rows k ∙ ap (option_map (λ (e : List ℕ × List ℕ). e.0)) at) in
    ap (λ (n : List ℕ). compared n t.0) (sym one) ∙ ap (compared (get_or names i r.0)) (sym two) ∙ less

not_greater : (o : Ordering) → (o ≡ Less) → o ≢ Greater
not_greater o e = λ g. let both : Less ≡ Greater = sym e ∙ g in absurd (cc)

not_greater_equal : (o : Ordering) → (o ≡ Equal) → o ≢ Greater
not_greater_equal o e = λ g. let both : Equal ≡ Greater = sym e ∙ g in absurd (cc)

less_from : (a b : ℕ) → nat_lt a b ≡ true → a < b
less_from a b e = search rules

least_from : (a b : ℕ) → nat_lt a b ≡ false → b ≤ a
least_from a b e = search rules

module _ (side : Side) (link : Link) (links : List Link) (rs : List ArtifactRule) (queue : Queue)
    (rows : Artifacts) (is : rows ≡ side_of side link) (s : AreInOrder (map (λ e. e.0) rows)) (h : IsQueue side link links rs rows queue)
    (at : ℕ) (few : at ≤ length rs) where
  passed_rule : (r : ArtifactRule) → IsPassed queue at r → Fails side link links rs at r → ⊥
  passed_rule (disallow p) none f =
      let e = reaches_to side link links rs queue rows is h at f.0 few f.1.1 in
      none e.0 (f.0, e.1) e.2 (e.3, f.1.0)
  passed_rule (require path) some f =
      let q = item queue some.0 some.1.below in
      let left = some.1.left q.0 q.1 in
      f (subst (λ (p : List ℕ). Reaches side link links rs at p) (sym left.1) (reaches_from side link links rs queue rows is s h some.0 at q.0 q.1 left.0))
  passed_rule (create p) some f = f
  passed_rule (delete p) some f = f
  passed_rule (modify p) some f = f
  passed_rule (allow p) some f = f
  passed_rule (matching m) some f = f

  pub passed : (r : ArtifactRule) → slice_get rs at ≡ Some r → IsPassed queue at r → FailsAt side link links rs at → ⊥
  passed r here some f = passed_rule r some (subst (λ (t : ArtifactRule). Fails side link links rs at t) (some_once f.0 r (sym f.1 ∙ here)) f.2)

  module _ (before : (i : ℕ) → i < at → FailsAt side link links rs i → ⊥) where
    pub requires_it : (r : ArtifactRule) (path : List ℕ) → slice_get rs at ≡ Some r → r ≡ require path → NoneLeft queue at r → RulesRequire side link links rs at path
    requires_it r path here rule none =
        let there : slice_get rs at ≡ Some (require path) = here ∙ ap (λ t. Some t) rule in
        let nothing = subst (λ (t : ArtifactRule). NoneLeft queue at t) rule none in
        record {
          first = ((require path, there, (λ reaches. let e = reaches_to side link links rs queue rows is h at path few reaches in nothing e.0 (path, e.1) e.2 (e.3, refl))), before);
          rule = there;
        }

    module _ (r : ArtifactRule) (path : List ℕ) (here : slice_get rs at ≡ Some r) (f : IsForbidden queue at r path) where
      there : slice_get rs at ≡ Some (disallow f.pattern)
      there = here ∙ ap (λ t. Some t) f.rule

      first : FirstLeft queue at (disallow f.pattern) f.place
      first = subst (λ (t : ArtifactRule). FirstLeft queue at t f.place) f.rule f.first

      left : LeavesForbidden side link links rs at f.pattern path
      left =
          let it = first.left (path, f.taken) f.path_at in
          (it.1, reaches_from side link links rs queue rows is s h f.place at (path, f.taken) f.path_at it.0)

      place_of : (k n : ℕ) (other : List ℕ) → slice_get queue k ≡ Some (other, n) → (row : List ℕ × List ℕ) × (slice_get rows k ≡ Some row) × (other ≡ row.0)
      place_of k n other e =
          let row = row_of (λ r e. (e.0 ≡ r.0) × IsTaken side link links rs r.0 e.1) rows queue k (other, n) h e in
          (row.0, row.1, row.2.0)

      least : (other : List ℕ) → LeavesForbidden side link links rs at f.pattern other → compared path other ≢ Greater
      least other o =
          let e = reaches_to side link links rs queue rows is h at other few o.1 in
          elim (cases_Bool (nat_lt e.0 f.place)) [
            | inl low ↦ absurd (first.before e.0 (other, e.1) (less_from e.0 f.place low) e.2 (e.3, o.0))
            | inr high ↦
                let most = least_from e.0 f.place high in
                elim (cases_Bool (nat_lt f.place e.0)) [
                  | inl up ↦
                      let mine = place_of f.place f.taken path f.path_at in
                      let theirs = place_of e.0 e.1 other e.2 in
                      let less = rises rows f.place e.0 mine.0 theirs.0 s mine.1 theirs.1 (less_from f.place e.0 up) in
                      not_greater (compared path other) (ap (λ (n : List ℕ). compared n other) mine.2 ∙ ap (compared mine.0.0) theirs.2 ∙ less)
                  | inr down ↦
                      let same : f.place ≡ e.0 = omega (arith, most, least_from f.place e.0 down) in
                      let one = some_once (path, f.taken) (other, e.1) (sym f.path_at ∙ ap (slice_get queue) same ∙ e.2) in
                      let name : path ≡ other = ap (λ (z : List ℕ × ℕ). z.0) one in
                      not_greater_equal (compared path other) (ap (compared path) (sym name) ∙ tied_itself nat_list_cmp_total path)
                ]
          ]

      pub forbids_it : RulesForbid side link links rs at path
      forbids_it = record { pattern = f.pattern; first = ((disallow f.pattern, there, (path, left)), before); rule = there; left = left; least = least }
