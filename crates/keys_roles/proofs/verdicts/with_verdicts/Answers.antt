use Rattle.std.proofs.Common.{◌≡◌, ◌↔◌, ℕ, ◌++◌, ◌+◌, ◌≤◌, List, [], ◌∷◌, cond, map, length, Bool, true, false, refl, sym, ap, subst, ◌∙◌, arith}
use Rattle.keys_roles.specs.Plain as plain
use Rattle.keys_roles.specs.Rules.{AreDistinct}
use Rattle.keys_roles.specs.Verdicts.{AreVerdicts, Pair, is_known, pairs, pairs_from, with_pair}
use Rattle.keys_roles.specs.declared.Key.{Key}
use Rattle.keys_roles.specs.declared.Signature.{Signature}
use Rattle.keys_roles.specs.declared.Verdict.{Verdict}
use Rattle.keys_roles.specs.steps.Counting.{IsIn}
use Rattle.keys_roles.specs.Views.{entries_view, entry_view, rule_view, table_view, key_view, verdict_views}
use Rattle.keys_roles.proofs.Knowing.{tells, entry_at, entries_on, pairs_on, with_verdict, verdict_more, is_verdict, has_pair, in_known, known_all, distinct_verdicts, fewer_left, one_unknown}
use Rattle.keys_roles.proofs.verdicts.with_verdicts.Goals as goal
use Rattle.keys_roles.proofs.verdicts.with_verdicts.Goals.{in-Some-named+then-not-is_held+in_ok-push, in-Some-named+else-not-is_held, in_default-named}

abbrev made : ℕ → Key → Bool → Verdict
made place key verifies = record { place = place; key = key; verifies = verifies }

pub verdict-verifies-requires-clause-sound : goal.verdict-verifies-requires-clause-sound
verdict-verifies-requires-clause-sound c =
    let at = c.in-Some.ensures.cases.0 in
    tells c.args.signed.now (entries_view c.args.signatures.now) c.entries.place (entry_view c.in-Some.entry.now) (verdict_views c.args.known.now)
    (entry_at c.entries.place (entries_view c.args.signatures.now) (entry_view c.in-Some.entry.now) (entries_view c.in-Some.later.now) (entries_view c.entries.rest.now)
    c.entries.invariant.left (ap entries_view at)) c.requires.known

at_most_one : (b : Bool) → cond b 0 1 ≤ 1
at_most_one true = omega arith
at_most_one false = omega arith

abbrev of : List Verdict → List Pair
of vs = map (λ v. v.pair) (verdict_views vs)

-- the pairs that are left, one entry on
same_one : (xs ys zs : List Pair) → xs ≡ ys → ((p : Pair) → IsIn ys p ↔ IsIn zs p) → (p : Pair) → IsIn xs p ↔ IsIn zs p
same_one xs ys zs is same p = subst (λ qs. IsIn qs p ↔ IsIn zs p) (sym is) (same p)

same_more : (xs ys zs : List Pair) → ((p : Pair) → IsIn xs p ↔ IsIn ys p) → ((p : Pair) → IsIn ys p ↔ IsIn zs p) → (p : Pair) → IsIn xs p ↔ IsIn zs p
same_more xs ys zs first then p = (λ h. (then p).0 ((first p).0 h), λ h. (first p).1 ((then p).1 h))

pub entries-preserved : goal.entries-preserved
entries-preserved c =
    let at = c.in-Some.ensures.cases.0 in
    let rule = rule_view c.args.rule.now in
    let table = table_view c.args.table.now in
    let later = entries_view c.in-Some.later.now in
    let entry = entry_view c.in-Some.entry.now in
    let shorter = ap length at in
    let entries = entries_view c.args.signatures.now in
    let rest : List Pair = pairs_from rule table (c.entries.place + 1) later in
    let before : List Pair = pairs_from rule table c.entries.place (entries_view c.entries.rest.now) in
    let on = pairs_on rule table c.entries.place (entries_view c.entries.rest.now) entry later (ap entries_view at) in
    let held : List Verdict = c.entries.verdicts.items in
    let all : List Pair = of c.args.verdicts.items ++ pairs rule table entries in
    record {
      left = entries_on c.entries.place (entries_view c.args.signatures.now) entry later (entries_view c.entries.rest.now) c.entries.invariant.left (ap entries_view at);
      few = omega (arith, c.entries.invariant.few, shorter);
      all = elim c.match-named.branch [
        | in-Some-named+then-not-is_held+in_ok-push w ↦
            same_one (of c.match-named.verdicts.items ++ rest) (of held ++ before) all
            (ap (λ vs. of vs.items ++ rest) w.verdicts-is
            ∙ ap (λ vs. of vs ++ rest) w.in_ok-push.ensures.items
            ∙ with_verdict held (made c.entries.place w.in-Some-named.key.now w.verdict-verifies.result) rest
            ∙ ap (λ ps. of held ++ ps) (ap (λ o. with_pair c.entries.place o rest) w.in-Some-named.ensures ∙ sym on))
            c.entries.invariant.all
        | in-Some-named+else-not-is_held w ↦
            let q : Pair = (c.entries.place, key_view w.in-Some-named.key.now) in
            let known : is_known (verdict_views held) q ≡ true = sym (w.is_held.ensures ∙ ap (λ vs. is_known (verdict_views vs) q) w.deref.ensures.value) ∙ w.if-not-is_held.false in
            same_one (of c.match-named.verdicts.items ++ rest) (of held ++ rest) all (ap (λ vs. of vs.items ++ rest) w.verdicts-is)
            (same_more (of held ++ rest) (of held ++ before) all
            (subst (λ (ps : List Pair). (p : Pair) → IsIn (of held ++ rest) p ↔ IsIn (of held ++ ps) p) (ap (λ o. with_pair c.entries.place o rest) w.in-Some-named.ensures ∙ sym on)
            (has_pair (of held) rest q (in_known (verdict_views held) q known)))
            c.entries.invariant.all)
        | in_default-named w ↦
            same_one (of c.match-named.verdicts.items ++ rest) (of held ++ before) all
            (ap (λ vs. of vs.items ++ rest) w.verdicts-is
            ∙ ap (λ ps. of held ++ ps) (ap (λ o. with_pair c.entries.place o rest) w.in_default-named.ensures ∙ sym on))
            c.entries.invariant.all
      ];
      sound = elim c.match-named.branch [
        | in-Some-named+then-not-is_held+in_ok-push w ↦
            subst (λ vs. AreVerdicts c.args.signed.now entries (verdict_views vs))
            (sym (ap (λ vs. vs.items) w.verdicts-is ∙ w.in_ok-push.ensures.items))
            (verdict_more c.args.signed.now entries c.entries.verdicts.items (made c.entries.place w.in-Some-named.key.now w.verdict-verifies.result) c.entries.invariant.sound
            (is_verdict c.args.signed.now entries c.entries.place entry (key_view w.in-Some-named.key.now) w.verdict-verifies.result
            (entry_at c.entries.place entries entry later (entries_view c.entries.rest.now) c.entries.invariant.left (ap entries_view at)) w.verdict-verifies.ensures.told))
        | in-Some-named+else-not-is_held w ↦
            subst (λ vs. AreVerdicts c.args.signed.now entries (verdict_views vs)) (sym (ap (λ vs. vs.items) w.verdicts-is)) c.entries.invariant.sound
        | in_default-named w ↦
            subst (λ vs. AreVerdicts c.args.signed.now entries (verdict_views vs)) (sym (ap (λ vs. vs.items) w.verdicts-is)) c.entries.invariant.sound
      ];
      distinct = elim c.match-named.branch [
        | in-Some-named+then-not-is_held+in_ok-push w ↦
            let q : Pair = (c.entries.place, key_view w.in-Some-named.key.now) in
            let new : is_known (verdict_views held) q ≡ false = sym (w.is_held.ensures ∙ ap (λ vs. is_known (verdict_views vs) q) w.deref.ensures.value) ∙ w.if-not-is_held.true in
            subst (λ vs. AreDistinct (of vs)) (sym (ap (λ vs. vs.items) w.verdicts-is ∙ w.in_ok-push.ensures.items))
            (distinct_verdicts held (made c.entries.place w.in-Some-named.key.now w.verdict-verifies.result) c.entries.invariant.distinct new)
        | in-Some-named+else-not-is_held w ↦
            subst (λ vs. AreDistinct (of vs)) (sym (ap (λ vs. vs.items) w.verdicts-is)) c.entries.invariant.distinct
        | in_default-named w ↦
            subst (λ vs. AreDistinct (of vs)) (sym (ap (λ vs. vs.items) w.verdicts-is)) c.entries.invariant.distinct
      ];
      grows = elim c.match-named.branch [
        | in-Some-named+then-not-is_held+in_ok-push w ↦ omega (arith, w.steps-is, w.verdict-verifies.ensures.grows, c.entries.invariant.grows)
        | in-Some-named+else-not-is_held w ↦ omega (arith, w.steps-is, c.entries.invariant.grows)
        | in_default-named w ↦ omega (arith, w.steps-is, c.entries.invariant.grows)
      ];
      room = elim c.match-named.branch [
        | in-Some-named+then-not-is_held+in_ok-push w ↦
            let one = at_most_one (is_known (verdict_views c.args.known.now) (c.entries.place, key_view w.in-Some-named.key.now)) in
            omega (arith, w.steps-is, w.verdict-verifies.ensures.most, one, c.entries.invariant.room, shorter)
        | in-Some-named+else-not-is_held w ↦ omega (arith, w.steps-is, c.entries.invariant.room, shorter)
        | in_default-named w ↦ omega (arith, w.steps-is, c.entries.invariant.room, shorter)
      ];
      unknown =
          let split = fewer_left (verdict_views c.args.known.now) rule table c.entries.place (entries_view c.entries.rest.now) entry later (ap entries_view at) in
          elim c.match-named.branch [
            | in-Some-named+then-not-is_held+in_ok-push w ↦
                let one = one_unknown (verdict_views c.args.known.now) c.entries.place _ (key_view w.in-Some-named.key.now) (sym w.in-Some-named.ensures) in
                omega (arith, w.steps-is, split, one, w.verdict-verifies.ensures.most, c.entries.invariant.unknown)
            | in-Some-named+else-not-is_held w ↦ omega (arith, w.steps-is, split, c.entries.invariant.unknown)
            | in_default-named w ↦ omega (arith, w.steps-is, split, c.entries.invariant.unknown)
          ];
    }

pub returns-in_err-push-clause-grows : goal.returns-in_err-push-clause-grows
returns-in_err-push-clause-grows c = omega (arith, c.verdict-verifies.ensures.grows, c.entries.invariant.grows)

pub returns-in_err-push-clause-unknown : goal.returns-in_err-push-clause-unknown
returns-in_err-push-clause-unknown c =
    let at = c.in-Some.ensures.cases.0 in
    let split = fewer_left (verdict_views c.args.known.now) (rule_view c.args.rule.now) (table_view c.args.table.now) c.entries.place (entries_view c.entries.rest.now)
    (entry_view c.in-Some.entry.now) (entries_view c.in-Some.later.now) (ap entries_view at) in
    let one = one_unknown (verdict_views c.args.known.now) c.entries.place _ (key_view c.in-Some-named.key.now) (sym c.in-Some-named.ensures) in
    omega (arith, split, one, c.verdict-verifies.ensures.most, c.entries.invariant.unknown)

pub returns-clause-grows : goal.returns-clause-grows
returns-clause-grows c = c.entries.invariant.grows

pub returns-clause-unknown : goal.returns-clause-unknown
returns-clause-unknown c = omega (arith, c.entries.invariant.unknown)

none_left : (rule : plain.RoleRule) (table : plain.Table) (place : ℕ) (rest : List Signature) → length rest ≡ 0 → pairs_from rule table place (entries_view rest) ≡ []
none_left rule table place [] h = refl
none_left rule table place (e ∷ es) h = absurd (omega (arith, h))

pub returns-clause-all : goal.returns-clause-all
returns-clause-all c =
    let rule = rule_view c.args.rule.now in
    let table = table_view c.args.table.now in
    let none : pairs_from rule table c.entries.place (entries_view c.entries.rest.now) ≡ [] = none_left rule table c.entries.place c.entries.rest.now c.in_default.ensures.cases in
    known_all (verdict_views c.entries.verdicts.items) (verdict_views c.args.verdicts.items) (pairs rule table (entries_view c.args.signatures.now))
    (subst (λ (ps : List Pair). (p : Pair) → IsIn (of c.entries.verdicts.items ++ ps) p ↔ IsIn (of c.args.verdicts.items ++ pairs rule table (entries_view c.args.signatures.now)) p) none c.entries.invariant.all)
