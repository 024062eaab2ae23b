-- When a rule of MATCH takes a path.
use Rattle.std.proofs.Common.{◌≡◌, ℕ, List, [], ◌∷◌, ◌++◌, Option, Some, None, Bool, true, false, MatchBool, refl, sym, subst, ap, ◌∙◌}
use Rattle.std.specs.Prelude.{IsTrue, ◌↔◌}
use Rattle.std.proofs.lemmas.Bool.{true≢false}
use Rattle.path_patterns.specs.Matching.{MatchesFlat}
use Rattle.metadata.specs.File.{look_up}
use Rattle.document_parts.specs.Links.{Artifacts, HasDigest, Link, side_of}
use Rattle.document_parts.specs.Rules.{Match}
use Rattle.artifact_rules.specs.Rules.{TakesMatch, link_of, path_in}
use Rattle.artifact_rules.specs.steps.Taking.{Concerns, TakesWith}

behind_once : (folder a b : List ℕ) → folder ++ 47 ∷ a ≡ folder ++ 47 ∷ b → a ≡ b
behind_once [] a b e = cc
behind_once (x ∷ folder) a b e = behind_once folder a b (cc)

rest_once : (folder : Option (List ℕ)) (a b path : List ℕ) → path ≡ path_in folder a → path ≡ path_in folder b → a ≡ b
rest_once None a b path p q = sym p ∙ q
rest_once (Some folder) a b path p q = behind_once folder a b (sym p ∙ q)

some_once : {A : Type 0} (a b : A) → Some a ≡ Some b → a ≡ b
some_once a b e = cc

pub concerned : (m : Match) (path rest : List ℕ) → path ≡ path_in m.from rest → (b : Bool) → (IsTrue b) ↔ (MatchesFlat m.pattern rest)
    → MatchBool b (Concerns m path) (Concerns m path → ⊥)
concerned m path rest here true h = (rest, here, h.0 refl)
concerned m path rest here false h = λ t.
    true≢false (sym (h.1 (subst (λ (r : List ℕ). MatchesFlat m.pattern r) (rest_once m.from t.0 rest path t.1 here) t.2)))

module _ (m : Match) (links : List Link) (path digest rest : List ℕ) (here : path ≡ path_in m.from rest) where
  pub no_match : (MatchesFlat m.pattern rest → ⊥) → TakesWith m links path digest → ⊥
  no_match other t = other (subst (λ (r : List ℕ). MatchesFlat m.pattern r) (rest_once m.from t.rest rest path t.in_folder here) t.matches)

  module _ (link : Link) (step : link_of links m.step ≡ Some link) where
    there : (t : TakesWith m links path digest) → look_up (side_of m.side link) (path_in m.to rest) ≡ Some digest
    there t =
        let one = rest_once m.from t.rest rest path t.in_folder here in
        let two = some_once t.link link (sym t.step ∙ step) in
        subst (λ (l : Link). look_up (side_of m.side l) (path_in m.to rest) ≡ Some digest) two
        (subst (λ (r : List ℕ). look_up (side_of m.side t.link) (path_in m.to r) ≡ Some digest) one t.there)

    pub not_there : look_up (side_of m.side link) (path_in m.to rest) ≡ None → TakesWith m links path digest → ⊥
    not_there none t = let both : None ≡ Some digest = sym none ∙ there t in absurd (cc)

    pub found : MatchesFlat m.pattern rest → (other : List ℕ) (same : Bool) → look_up (side_of m.side link) (path_in m.to rest) ≡ Some other
        → MatchBool same (other ≡ digest) (other ≡ digest → ⊥) → MatchBool same (TakesWith m links path digest) (TakesWith m links path digest → ⊥)
    found matches other true at is =
        record { rest = rest; link = link; in_folder = here; matches = matches; step = step; there = at ∙ ap (λ d. Some d) is }
    found matches other false at is = λ t. is (some_once other digest (sym at ∙ there t))

-- ---- of a path that is listed

pub unlisted : (m : Match) (side : Artifacts) (links : List Link) (path : List ℕ) → look_up side path ≡ None → TakesMatch m side links path → ⊥
unlisted m side links path none t = let both : None ≡ Some t.digest = sym none ∙ t.here in absurd (cc)

pub listed : (m : Match) (side : Artifacts) (links : List Link) (path digest : List ℕ) (r : Bool) → HasDigest side path digest
    → MatchBool r (TakesWith m links path digest) (TakesWith m links path digest → ⊥)
    → MatchBool r (TakesMatch m side links path) (TakesMatch m side links path → ⊥)
listed m side links path digest true here t =
    record { rest = t.rest; link = t.link; digest = digest; in_folder = t.in_folder; matches = t.matches; step = t.step; here = here; there = t.there }
listed m side links path digest false here none = λ t.
    let one = some_once t.digest digest (sym t.here ∙ here) in
    none (record { rest = t.rest; link = t.link; in_folder = t.in_folder; matches = t.matches; step = t.step; there = t.there ∙ ap (λ d. Some d) one })
