use Rattle.std.proofs.Common.{◌≡◌, ◌+◌, ℕ, suc, List, [], ◌∷◌, String, length, string_bytes, rules, refl, sym, ap, ◌∙◌, subst, arith}
use Rattle.std.specs.declared.alloc.Global.{Global}
use Rattle.drafting.specs.Members.{Drops, HasNone, Rows, without}
use Rattle.drafting.specs.Targets.{IsThere, IsUnlisted, RemovesAll}
use Rattle.drafting.specs.steps.Rows.{rows_view, texts_view}
use Rattle.drafting.proofs.Listings.{removes_more, removes_none, unlisted_here, unlisted_more}
use Rattle.drafting.proofs.Without.{without_more, without_none}
use Rattle.drafting.proofs.Results.{no_rows}
use Rattle.drafting.proofs.Rows.{shown}
use Rattle.drafting.proofs.targets.remove_all.Goals as goal

abbrev Text : Type 0
Text = String Global

pub paths-preserved : goal.paths-preserved
paths-preserved c =
    let m = shown c.paths.targets.items in
    let a = shown c.take_listing-there.new.targets.items in
    let p = string_bytes c.in-Some.path.now in
    let later = texts_view c.in-Some.later.now in
    let is : c.paths.rest.now ≡ c.in-Some.path.now ∷ c.in-Some.later.now = search rules in
    let long : length c.paths.rest.now ≡ suc (length c.in-Some.later.now) = ap (λ (r : List Text). length r) is in
    let count = c.paths.invariant.count in
    let drop = subst (λ (n : List ℕ). Drops n m a) c.as_str.ensures.value c.take_listing-there.ensures.dropped in
    let gone = subst (λ (n : List ℕ). rows_view c.take_listing-there.new.targets.items ≡ without (n ∷ []) (rows_view c.paths.targets.items)) c.as_str.ensures.value c.take_listing-there.ensures.rest in
    let there = subst (λ (n : List ℕ). IsThere m n) c.as_str.ensures.value (c.take_listing-there.ensures.there c.if-there.true) in
    record {
      count = omega (arith, long, count);
      rest = sym (without_more p later (rows_view c.paths.targets.items) ∙ ap (λ (r : Rows). without later r) (sym gone))
          ∙ ap (λ (r : List Text). without (texts_view r) (rows_view c.paths.targets.items)) (sym is) ∙ c.paths.invariant.rest;
      removes = λ d more. c.paths.invariant.removes d (subst (λ (r : List Text). RemovesAll (texts_view r) m d) (sym is) (removes_more p later m a d there drop more));
      unlisted = λ i u.
          let at : c.paths.at + suc i ≡ c.paths.at + 1 + i = omega arith in
          subst (λ (k : ℕ). IsUnlisted (texts_view c.args.paths.now) (shown c.args.targets.now.items) k) at
          (c.paths.invariant.unlisted (suc i) (subst (λ (r : List Text). IsUnlisted (texts_view r) m (suc i)) (sym is) (unlisted_more p later m a i there drop u)));
    }

pub returns-else-there-clause-err : goal.returns-else-there-clause-err
returns-else-there-clause-err c =
    let m = shown c.paths.targets.items in
    let p = string_bytes c.in-Some.path.now in
    let later = texts_view c.in-Some.later.now in
    let is : c.paths.rest.now ≡ c.in-Some.path.now ∷ c.in-Some.later.now = search rules in
    let none = subst (λ (n : List ℕ). HasNone m n) c.as_str.ensures.value (c.take_listing-there.ensures.none c.if-there.false) in
    let at : c.paths.at + 0 ≡ c.paths.at = omega arith in
    let u = c.paths.invariant.unlisted 0 (subst (λ (r : List Text). IsUnlisted (texts_view r) m 0) (sym is) (unlisted_here p later m none)) in
    (c.paths.at, subst (λ (k : ℕ). IsUnlisted (texts_view c.args.paths.now) (shown c.args.targets.now.items) k) at u, refl)

pub returns-clause-ok : goal.returns-clause-ok
returns-clause-ok c =
    let m = shown c.paths.targets.items in
    let none : c.paths.rest.now ≡ [] = no_rows c.paths.rest.now c.in_default.ensures.cases in
    c.paths.invariant.removes m (subst (λ (r : List Text). RemovesAll (texts_view r) m m) (sym none) (removes_none m))

pub returns-clause-rest : goal.returns-clause-rest
returns-clause-rest c =
    let none : c.paths.rest.now ≡ [] = no_rows c.paths.rest.now c.in_default.ensures.cases in
    sym (without_none (rows_view c.paths.targets.items)) ∙ ap (λ (r : List Text). without (texts_view r) (rows_view c.paths.targets.items)) (sym none) ∙ c.paths.invariant.rest
