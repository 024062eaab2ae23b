-- Where the last run began: behind the pattern's last `*`, or at the front.
use Rattle.std.proofs.Common.{◌≡◌, ◌≢◌, ◌≤◌, ◌<◌, ◌+◌, ◌*◌, ◌||◌, ◌∷◌, ℕ, Bool, true, List, length, Option, Some, None, sym, ◌∙◌, ap, arith, length-append}
use Rattle.std.proofs.Math.Bool.{or-false}
use Rattle.std.proofs.Math.Nat.{mul-le-mul_right}
use Rattle.path_patterns.specs.Tests.{matches, passes}
use Rattle.path_patterns.specs.steps.Walking.{more, more_of}
use Rattle.path_patterns.proofs.Greedy.{IsBehind, at_front, one_more, same_byte, at_star, run_is_last}
use Rattle.path_patterns.specs.declared.wildcards.Rest.{Rest}

abbrev pub front_of : Option Rest → List ℕ → List ℕ
front_of None pattern = pattern
front_of (Some run) pattern = run.pattern.now

abbrev pub text_of : Option Rest → List ℕ → List ℕ
text_of None text = text
text_of (Some run) text = run.text.now

-- what the matcher keeps
pub record Goes (free : ℕ → Bool) (pattern text : List ℕ) (run : Option Rest) (p t : List ℕ) : Type 0 where
  pub value : matches free pattern text ≡ (matches free p t || more_of free run)
  pub behind : IsBehind free (front_of run pattern) (text_of run text) p t
  pub within : length (front_of run pattern) ≤ length pattern

module _ (free : ℕ → Bool) where
  pub begins : (pattern text : List ℕ) → Goes free pattern text None pattern text
  begins pattern text = record { value = sym (or-false (matches free pattern text)); behind = at_front free pattern text; within = omega arith }

  pub passed : (pattern text : List ℕ) (run : Option Rest) (p t : List ℕ) (c b : ℕ) (cs bs : List ℕ) → Goes free pattern text run p t
      → p ≡ c ∷ cs → t ≡ b ∷ bs → c ≢ 42 → passes free c b ≡ true → Goes free pattern text run cs bs
  passed pattern text run p t c b cs bs g e f no_star same = record {
    value = g.value ∙ ap (λ (x : Bool). x || more_of free run) (same_byte free p t c b cs bs e f no_star same);
    behind = one_more free (front_of run pattern) (text_of run text) p t c b cs bs g.behind e f no_star same;
    within = g.within;
  }

  -- behind a `*` its run is the last
  last : (pattern text : List ℕ) (run : Option Rest) (p cs t : List ℕ) → IsBehind free (front_of run pattern) (text_of run text) p t → p ≡ 42 ∷ cs
      → (matches free p t || more_of free run) ≡ (matches free cs t || more free cs t)
  last pattern text None p cs t h e = or-false (matches free p t) ∙ ap (λ (x : List ℕ). matches free x t) e ∙ at_star free cs t
  last pattern text (Some s) p cs t h e = run_is_last free s.pattern.now s.text.now p cs t h e

  pub new_run : (pattern text : List ℕ) (run : Option Rest) (p t : List ℕ) (r : Rest) → Goes free pattern text run p t
      → p ≡ 42 ∷ r.pattern.now → r.text.now ≡ t → Goes free pattern text (Some r) r.pattern.now r.text.now
  new_run pattern text run p t r g e f = record {
    value = g.value ∙ last pattern text run p r.pattern.now t g.behind e ∙ ap (λ (x : List ℕ). matches free r.pattern.now x || more free r.pattern.now x) (sym f);
    behind = at_front free r.pattern.now r.text.now;
    within = omega (arith, g.within, ap length e, ap length g.behind.pattern_is, length-append g.behind.part p);
  }

  pub new_run_is_less : (pattern text : List ℕ) (run : Option Rest) (p t : List ℕ) (r : Rest) → Goes free pattern text run p t
      → p ≡ 42 ∷ r.pattern.now → r.text.now ≡ t
      → length r.text.now * (length pattern + 1) + length r.pattern.now < length (text_of run text) * (length pattern + 1) + length p
  new_run_is_less pattern text run p t r g e f =
      let shorter : length r.text.now ≤ length (text_of run text) = omega (arith, ap length f, ap length g.behind.text_is, length-append g.behind.taken t) in
      omega (arith, mul-le-mul_right (length pattern + 1) shorter, ap length e)
