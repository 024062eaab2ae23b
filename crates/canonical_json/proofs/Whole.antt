-- The reader of all of the bytes finds exactly the value that they spell.
use Rattle.std.proofs.Common.{◌≡◌, ℕ, ◌⊎◌, inl, inr, List, [], ◌∷◌, true, length, refl, sym, ap, ◌∙◌, append-nil}
use Rattle.canonical_json.specs.Json.{Json}
use Rattle.canonical_json.specs.Spelling.{spelling, IsCanonical}
use Rattle.canonical_json.specs.steps.Reading.{Outcome, got, bad, value_at, closed, whole_at, Stops}
use Rattle.canonical_json.specs.declared.ReadFault.{ReadFault}
use Rattle.canonical_json.specs.declared.ReadFault.TheVariants.{NotCanonical, OutOfMemory}
use Rattle.canonical_json.proofs.Forms.{bad_got, got_parts}
use Rattle.canonical_json.proofs.Sound.{value_sound}
use Rattle.canonical_json.proofs.Complete.{value_again}
use Rattle.canonical_json.proofs.Steps.{length-zero}

pub closed_got : (o : Outcome Json) (v : Json) (rest : List ℕ) → closed o ≡ got v rest → o ≡ got v []
closed_got (got w []) v rest e = ap (λ (x : Json). got x []) (got_parts w v [] rest e).0
closed_got (got w (b ∷ bs)) v rest e = absurd (bad_got NotCanonical (b ∷ bs) v rest e)
closed_got (bad f s) v rest e = absurd (bad_got f s v rest e)

pub whole_sound : (bs : List ℕ) (v : Json) → whole_at bs ≡ got v [] → IsCanonical v bs
whole_sound bs v e =
    let s = value_sound true 32 bs v [] (closed_got (value_at true 32 bs) v [] e) in
    record { allowed = record { proper = s.0.0; integers = s.0.1 refl; nesting = s.0.2 }; spelled = s.1 ∙ append-nil (spelling v) }

pub whole_again : (bs : List ℕ) (v : Json) → IsCanonical v bs → whole_at bs ≡ got v []
whole_again bs v c =
    let a = c.allowed in
    ap closed (ap (value_at true 32) (c.spelled ∙ sym (append-nil (spelling v))) ∙ value_again true v 32 [] (a.proper, (λ l. a.integers), a.nesting) tt)

-- where it stops the bytes spell no value
pub whole_refused : (bs : List ℕ) (e : ReadFault) → Stops (whole_at bs) e → (v : Json) → IsCanonical v bs → ⊥
whole_refused bs e s v c = bad_got e s.0 v [] (sym s.1 ∙ whole_again bs v c)

pub closed_end : (bs : List ℕ) (v : Json) (rest : List ℕ) → value_at true 32 bs ≡ got v rest → length rest ≡ 0 → whole_at bs ≡ got v []
closed_end bs v rest e h = ap closed (e ∙ ap (got v) (length-zero rest h))

pub closed_more : (bs : List ℕ) (v : Json) (rest : List ℕ) → value_at true 32 bs ≡ got v rest → (length rest ≡ 0 → ⊥) → Stops (whole_at bs) NotCanonical
closed_more bs v [] e h = absurd (h refl)
closed_more bs v (b ∷ rest) e h = (b ∷ rest, ap closed e)

pub closed_stops : (bs : List ℕ) (e : ReadFault) → (e ≡ OutOfMemory) ⊎ Stops (value_at true 32 bs) e → (e ≡ OutOfMemory) ⊎ Stops (whole_at bs) e
closed_stops bs e (inl p) = inl p
closed_stops bs e (inr s) = inr (s.0, ap closed s.1)
