-- Why there is no draft, from the steps of one.
use Rattle.std.proofs.Common.{◌≡◌, ◌⊎◌, inl, inr, Option, Some, sym, subst}
use Rattle.canonical_json.specs.Json.{Json}
use Rattle.denials.specs.declared.denial.Denial.{Denial}
use Rattle.document_parts.specs.Parts.{last_number}
use Rattle.document_parts.specs.declared.documents.Kind.{Kind}
use Rattle.drafting.specs.Drafts.{File, HasVersion, IsDenied, IsHeldAnd, IsTooLate, IsUndrafted, IsUnfit}
use Rattle.drafting.specs.declared.terms.Terms.{Terms}
use Rattle.drafting.specs.declared.faults.DraftFault.{DraftFault}
use Rattle.drafting.specs.declared.faults.DraftFault.TheVariants.{Held, Begun, Unfit, Spent, TooLate, OutOfMemory}

module _ (kind : Kind) (held begun : Option File) (terms : Terms) (Parts : Json → Type 0) (Own : DraftFault → Type 0) where
  abbrev Is : DraftFault → Type 0
  Is e = IsUndrafted kind held begun terms Parts Own e

  pub no_memory : (e : DraftFault) → e ≡ OutOfMemory → Is e
  no_memory e is = subst Is (sym is) tt

  pub unversioned : (e : DraftFault) → (e ≡ OutOfMemory) ⊎ (((e ≡ Spent) × IsHeldAnd held (λ f. HasVersion kind f last_number))
      ⊎ ((d : Denial) × (e ≡ Held d) × IsHeldAnd held (λ f. IsDenied kind f d))) → Is e
  unversioned e (inl h) = no_memory e h
  unversioned e (inr (inl h)) = subst Is (sym h.0) h.1
  unversioned e (inr (inr h)) = subst Is (sym h.1) h.2

  pub unbased : (e : DraftFault) → (e ≡ OutOfMemory) ⊎ (((d : Denial) × (e ≡ Begun d) × IsHeldAnd begun (λ f. IsDenied kind f d))
      ⊎ ((d : Denial) × (e ≡ Held d) × IsHeldAnd held (λ f. IsDenied kind f d))) → Is e
  unbased e (inl h) = no_memory e h
  unbased e (inr (inl h)) = subst Is (sym h.1) h.2
  unbased e (inr (inr h)) = subst Is (sym h.1) h.2

  pub untimed : (e : DraftFault) → (e ≡ OutOfMemory) ⊎ ((e ≡ TooLate) × IsTooLate terms) → Is e
  untimed e (inl h) = no_memory e h
  untimed e (inr h) = subst Is (sym h.0) h.1

  pub unfinished : (part : Json) (e : DraftFault) → Parts part → (e ≡ OutOfMemory) ⊎ ((d : Denial) × (e ≡ Unfit d) × IsUnfit kind part d) → Is e
  unfinished part e p (inl h) = no_memory e h
  unfinished part e p (inr h) = subst Is (sym h.1) (part, p, h.2)

-- ---- what is held, or gone on from, is denied

pub unheld : (kind : Kind) (held : Option File) (file : File) (e : DraftFault) → held ≡ Some file → (e ≡ OutOfMemory) ⊎ ((d : Denial) × (e ≡ Held d) × IsDenied kind file d)
    → (e ≡ OutOfMemory) ⊎ ((d : Denial) × (e ≡ Held d) × IsHeldAnd held (λ f. IsDenied kind f d))
unheld kind held file e is (inl h) = inl h
unheld kind held file e is (inr h) = inr (h.0, h.1, (file, is, h.2))

pub unbegun : (kind : Kind) (begun : Option File) (file : File) (e : DraftFault) → begun ≡ Some file → (e ≡ OutOfMemory) ⊎ ((d : Denial) × (e ≡ Begun d) × IsDenied kind file d)
    → (e ≡ OutOfMemory) ⊎ ((d : Denial) × (e ≡ Begun d) × IsHeldAnd begun (λ f. IsDenied kind f d))
unbegun kind begun file e is (inl h) = inl h
unbegun kind begun file e is (inr h) = inr (h.0, h.1, (file, is, h.2))

pub or_last : {A B C : Type 0} → A ⊎ C → A ⊎ (B ⊎ C)
or_last (inl a) = inl a
or_last (inr c) = inr (inr c)

pub or_next : {A B C : Type 0} → A ⊎ B → A ⊎ (B ⊎ C)
or_next (inl a) = inl a
or_next (inr b) = inr (inl b)
