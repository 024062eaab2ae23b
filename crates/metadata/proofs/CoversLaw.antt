-- The tests of what a delegation covers, and of what a root requires a layout, hold exactly where the relations do.
use Rattle.std.proofs.Common.{◌≡◌, ℕ, List, [], ◌∷◌, Bool, true, IsTrue, ◌↔◌, inl, inr, ⊎_elim, refl, sym, subst, true≢false}
use Rattle.std.proofs.lemmas.Bool.{or_cases, or_left, or_right}
use Rattle.std.specs.List.{list_any, Contains}
use Rattle.keys_roles.specs.steps.Counting.{IsIn}
use Rattle.path_patterns.specs.Matching.{MatchesSegmented, PrefixCovers}
use Rattle.path_patterns.specs.Tests as tests
use Rattle.document_parts.specs.Documents.{Delegation, Root, Scope, patterns, prefixes}
use Rattle.document_parts.specs.Covers.{Covers, covers, ScopeCovers, scope_covers, RequiresLayout, requires_layout, required_patterns}
use Rattle.document_parts.proofs.Elements.{contains_in, in_contains}

module _ (test : List ℕ → Bool) (P : List ℕ → Type 0) (tells : (p : List ℕ) → IsTrue (test p) ↔ P p) where
  some_of : (ps : List (List ℕ)) → list_any test ps ≡ true → (p : List ℕ) × IsIn ps p × P p
  some_of [] h = absurd (true≢false (sym h))
  some_of (p ∷ ps) h = ⊎_elim
      (λ l. (p, inl refl, (tells p).0 l))
      (λ r. let t = some_of ps r in (t.0, inr t.1, t.2))
      (or_cases (test p) (list_any test ps) h)

  of_some : (ps : List (List ℕ)) (p : List ℕ) → IsIn ps p → P p → list_any test ps ≡ true
  of_some [] p h is = absurd h
  of_some (q ∷ ps) p (inl h) is = or_left (test q) (list_any test ps) ((tells q).1 (subst P (sym h) is))
  of_some (q ∷ ps) p (inr h) is = or_right (test q) (list_any test ps) (of_some ps p h is)

  any_tells : (ps : List (List ℕ)) → IsTrue (list_any test ps) ↔ ((p : List ℕ) × Contains ps p × P p)
  any_tells ps = (λ h. let t = some_of ps h in (t.0, contains_in ps t.0 t.1, t.2), λ t. of_some ps t.0 (in_contains ps t.0 t.1) t.2)

abbrev pub Segmented : Type 0
Segmented = (p t : List ℕ) → IsTrue (tests.matches_segmented p t) ↔ MatchesSegmented p t

abbrev pub Prefixed : Type 0
Prefixed = (p t : List ℕ) → IsTrue (tests.prefix_covers p t) ↔ PrefixCovers p t

scope_tells : Segmented → Prefixed → (s : Scope) (path : List ℕ) → IsTrue (scope_covers s path) ↔ ScopeCovers s path
scope_tells segmented prefixed (patterns ps) path = any_tells (λ p. tests.matches_segmented p path) (λ p. MatchesSegmented p path) (λ p. segmented p path) ps
scope_tells segmented prefixed (prefixes ps) path = any_tells (λ p. tests.prefix_covers p path) (λ p. PrefixCovers p path) (λ p. prefixed p path) ps

pub covers_tell : Segmented → Prefixed → (d : Delegation) (path : List ℕ) → IsTrue (covers d path) ↔ Covers d path
covers_tell segmented prefixed d path = scope_tells segmented prefixed d.scope path

pub required_tell : Segmented → (r : Root) (path : List ℕ) → IsTrue (requires_layout r path) ↔ RequiresLayout r path
required_tell segmented r path = any_tells (λ p. tests.matches_segmented p path) (λ p. MatchesSegmented p path) (λ p. segmented p path) (required_patterns r)
