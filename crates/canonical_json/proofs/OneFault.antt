-- Bytes have at most one fault.
use Rattle.std.proofs.Common.{◌≡◌, ◌⊎◌, ℕ, List, slice_index, true, refl, ap, arith, subst, inl, inr}
use Rattle.canonical_json.specs.Faults.{IsReadFault, FaultAt, IsOpening, IsDigit}
use Rattle.canonical_json.specs.declared.ReadFault.{ReadFault}
use Rattle.canonical_json.specs.declared.ReadFault.TheVariants.{NotCanonical, TooDeep, IntegerRange, OutOfMemory}
use Rattle.canonical_json.proofs.Longest.{same_place, stops_at_fault}
use Rattle.canonical_json.proofs.Whole.{whole_sound, closed_got}
use Rattle.canonical_json.specs.Json.{Json}
use Rattle.canonical_json.specs.Spelling.{IsCanonical}
use Rattle.canonical_json.specs.steps.Reading.{Outcome, got, bad, closed, value_at, whole_at}

opening_no_digit : (c : ℕ) → IsOpening c → IsDigit c → ⊥
opening_no_digit c (inl e) d = omega arith
opening_no_digit c (inr e) d = omega arith

one_kind : (bytes : List ℕ) (place : ℕ) (e f : ReadFault) → FaultAt bytes place e → FaultAt bytes place f → e ≡ f
one_kind bytes place NotCanonical NotCanonical p q = refl
one_kind bytes place NotCanonical TooDeep p q = absurd (p q.0)
one_kind bytes place NotCanonical IntegerRange p q = absurd (p q.0)
one_kind bytes place NotCanonical OutOfMemory p q = absurd q
one_kind bytes place TooDeep NotCanonical p q = absurd (q p.0)
one_kind bytes place TooDeep TooDeep p q = refl
one_kind bytes place TooDeep IntegerRange p q = absurd (opening_no_digit (slice_index bytes place) p.1 q.1)
one_kind bytes place TooDeep OutOfMemory p q = absurd q
one_kind bytes place IntegerRange NotCanonical p q = absurd (q p.0)
one_kind bytes place IntegerRange TooDeep p q = absurd (opening_no_digit (slice_index bytes place) q.1 p.1)
one_kind bytes place IntegerRange IntegerRange p q = refl
one_kind bytes place IntegerRange OutOfMemory p q = absurd q
one_kind bytes place OutOfMemory f p q = absurd p

pub one_fault : (bytes : List ℕ) (e f : ReadFault) → IsReadFault bytes e → IsReadFault bytes f → e ≡ f
one_fault bytes e f p q =
    one_kind bytes q.place e f (subst (λ (k : ℕ). FaultAt bytes k e) (same_place bytes e f p q) p.kind) q.kind

-- the bytes are canonical, or they have a fault
pub canonical_or_fault : (bytes : List ℕ) → ((v : Json) × IsCanonical v bytes) ⊎ ((e : ReadFault) × IsReadFault bytes e)
canonical_or_fault bytes = by_reading (whole_at bytes) refl
  where
    by_reading : (o : Outcome Json) → whole_at bytes ≡ o → ((v : Json) × IsCanonical v bytes) ⊎ ((e : ReadFault) × IsReadFault bytes e)
    by_reading (got v rest) e = inl (v, whole_sound bytes v (ap closed (closed_got (value_at true 32 bytes) v rest e)))
    by_reading (bad fault rest) e = inr (fault, stops_at_fault bytes fault (rest, e))
