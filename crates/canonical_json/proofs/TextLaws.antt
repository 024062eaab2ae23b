-- Reading a text is the inverse of its spelling, both ways.
use Rattle.std.proofs.Common.{◌≡◌, ◌≢◌, ℕ, List, [], ◌∷◌, true, false, ◌||◌, ◌==◌, ◌⊎◌, inl, inr, refl, sym, ap, ◌∙◌, Some, None}
use Rattle.std.specs.Prelude.{Option}
use Rattle.std.proofs.lemmas.Bool.Decides.{eqb_tells}
use Rattle.canonical_json.specs.steps.Texts.{text_at, with_byte, closed_text}
use Rattle.canonical_json.proofs.TextSteps.{text_closed, text_plain, text_escape, text_cut, text_bad, text_ended, quote_test, slash_test}

pub special : (c : ℕ) → ((c == 34) || (c == 92) ≡ true) ⊎ (((c == 34) || (c == 92) ≡ false) × (c ≢ 34) × (c ≢ 92))
special c = by_first (eqb_tells c 34) (eqb_tells c 92)
  where
    by_first : ((c == 34 ≡ true) × (c ≡ 34)) ⊎ ((c == 34 ≡ false) × (c ≢ 34)) → ((c == 92 ≡ true) × (c ≡ 92)) ⊎ ((c == 92 ≡ false) × (c ≢ 92))
        → ((c == 34) || (c == 92) ≡ true) ⊎ (((c == 34) || (c == 92) ≡ false) × (c ≢ 34) × (c ≢ 92))
    by_first (inl p) q = inl (quote_test c p.1)
    by_first (inr p) (inl q) = inl (slash_test c q.1)
    by_first (inr p) (inr q) = inr (rw (p.0, q.0) refl, p.1, q.1)

-- what is spelled is read, whatever follows it
pub text_again : (t rest : List ℕ) → text_at (closed_text t rest) ≡ Some (t, rest)
text_again [] rest = text_closed 34 rest refl
text_again (c ∷ cs) rest = by_kind (special c) (text_again cs rest)
  where
    by_kind : ((c == 34) || (c == 92) ≡ true) ⊎ (((c == 34) || (c == 92) ≡ false) × (c ≢ 34) × (c ≢ 92)) → text_at (closed_text cs rest) ≡ Some (cs, rest)
        → text_at (closed_text (c ∷ cs) rest) ≡ Some (c ∷ cs, rest)
    by_kind (inl e) ih = rw e (text_escape 92 c (closed_text cs rest) refl e ∙ ap (with_byte c) ih)
    by_kind (inr e) ih = rw e.0 (text_plain c (closed_text cs rest) e.1 e.2 ∙ ap (with_byte c) ih)

with_byte_some : (b : ℕ) (read : Option (List ℕ × List ℕ)) (t rest : List ℕ) → with_byte b read ≡ Some (t, rest)
    → (u : List ℕ) × (read ≡ Some (u, rest)) × (t ≡ b ∷ u)
with_byte_some b None t rest e = cc
with_byte_some b (Some r) t rest e =
    let pair : ◌≡◌ {A = List ℕ × List ℕ} (b ∷ r.0, r.1) (t, rest) = cc in
    let first = ap (λ (p : List ℕ × List ℕ). p.0) pair in
    let second = ap (λ (p : List ℕ × List ℕ). p.1) pair in
    (r.0, ap (λ (x : List ℕ). Some (r.0, x)) second, sym first)

none_some : (read : Option (List ℕ × List ℕ)) (t rest : List ℕ) → read ≡ None → read ≡ Some (t, rest) → ⊥
none_some read t rest p q = let e = sym p ∙ q in cc

plain_spelling : (c : ℕ) (u rest : List ℕ) → (c == 34) || (c == 92) ≡ false → closed_text (c ∷ u) rest ≡ c ∷ closed_text u rest
plain_spelling c u rest e = rw e refl

special_spelling : (c : ℕ) (u rest : List ℕ) → (c == 34) || (c == 92) ≡ true → closed_text (c ∷ u) rest ≡ 92 ∷ c ∷ closed_text u rest
special_spelling c u rest e = rw e refl

pub some_pair : (a b t rest : List ℕ) → ◌≡◌ {A = Option (List ℕ × List ℕ)} (Some (a, b)) (Some (t, rest)) → (a ≡ t) × (b ≡ rest)
some_pair a b t rest e =
    let pair : ◌≡◌ {A = List ℕ × List ℕ} (a, b) (t, rest) = cc in
    (ap (λ (p : List ℕ × List ℕ). p.0) pair, ap (λ (p : List ℕ × List ℕ). p.1) pair)

abbrev Takes : List ℕ → List ℕ → Type 0
Takes rest bytes = (t : List ℕ) → text_at bytes ≡ Some (t, rest) → bytes ≡ closed_text t rest

takes_closed : (rest : List ℕ) (b : ℕ) (bs : List ℕ) → b ≡ 34 → Takes rest (b ∷ bs)
takes_closed rest b bs p t e =
    let pair = some_pair [] bs t rest (sym (text_closed b bs p) ∙ e) in
    let head : b ∷ bs ≡ 34 ∷ rest = let tail = pair.1 in cc in
    head ∙ ap (λ (x : List ℕ). closed_text x rest) pair.0

takes_plain_byte : (rest : List ℕ) (b : ℕ) (bs : List ℕ) → (b == 34) || (b == 92) ≡ false → b ≢ 34 → b ≢ 92 → Takes rest bs → Takes rest (b ∷ bs)
takes_plain_byte rest b bs k p q ih t e =
    let w = with_byte_some b (text_at bs) t rest (sym (text_plain b bs p q) ∙ e) in
    ap (λ (x : List ℕ). b ∷ x) (ih w.0 w.1) ∙ sym (plain_spelling b w.0 rest k) ∙ ap (λ (x : List ℕ). closed_text x rest) (sym w.2)

takes_escaped : (rest : List ℕ) (b c : ℕ) (cs : List ℕ) → b ≡ 92 → (c == 34) || (c == 92) ≡ true → Takes rest cs → Takes rest (b ∷ c ∷ cs)
takes_escaped rest b c cs p k ih t e =
    let w = with_byte_some c (text_at cs) t rest (sym (text_escape b c cs p k) ∙ e) in
    let tail = ih w.0 w.1 in
    let front : b ∷ c ∷ cs ≡ 92 ∷ c ∷ closed_text w.0 rest = cc in
    front ∙ sym (special_spelling c w.0 rest k) ∙ ap (λ (x : List ℕ). closed_text x rest) (sym w.2)

-- what is read is spelled so
pub text_takes : (rest bytes : List ℕ) → Takes rest bytes
text_takes rest [] t e = absurd (none_some (text_at []) t rest text_ended e)
text_takes rest (b ∷ []) t e = by_mark (eqb_tells b 34) (eqb_tells b 92) (text_takes rest [])
  where
    by_mark : ((b == 34 ≡ true) × (b ≡ 34)) ⊎ ((b == 34 ≡ false) × (b ≢ 34)) → ((b == 92 ≡ true) × (b ≡ 92)) ⊎ ((b == 92 ≡ false) × (b ≢ 92))
        → Takes rest [] → b ∷ [] ≡ closed_text t rest
    by_mark (inl p) q ih = takes_closed rest b [] p.1 t e
    by_mark (inr p) (inl q) ih = absurd (none_some (text_at (b ∷ [])) t rest (text_cut b q.1) e)
    by_mark (inr p) (inr q) ih = takes_plain_byte rest b [] (rw (p.0, q.0) refl) p.1 q.1 ih t e
text_takes rest (b ∷ c ∷ cs) t e = by_mark (eqb_tells b 34) (eqb_tells b 92) (special c) (text_takes rest (c ∷ cs)) (text_takes rest cs)
  where
    by_mark : ((b == 34 ≡ true) × (b ≡ 34)) ⊎ ((b == 34 ≡ false) × (b ≢ 34)) → ((b == 92 ≡ true) × (b ≡ 92)) ⊎ ((b == 92 ≡ false) × (b ≢ 92))
        → ((c == 34) || (c == 92) ≡ true) ⊎ (((c == 34) || (c == 92) ≡ false) × (c ≢ 34) × (c ≢ 92))
        → Takes rest (c ∷ cs) → Takes rest cs → b ∷ c ∷ cs ≡ closed_text t rest
    by_mark (inl p) q k next behind = takes_closed rest b (c ∷ cs) p.1 t e
    by_mark (inr p) (inl q) (inl k) next behind = takes_escaped rest b c cs q.1 k behind t e
    by_mark (inr p) (inl q) (inr k) next behind = absurd (none_some (text_at (b ∷ c ∷ cs)) t rest (text_bad b c cs q.1 k.1 k.2) e)
    by_mark (inr p) (inr q) k next behind = takes_plain_byte rest b (c ∷ cs) (rw (p.0, q.0) refl) p.1 q.1 next t e
