-- Names that rise are in order, and only those.
use Rattle.std.proofs.Common.{◌≡◌, ℕ, List, [], ◌∷◌, Bool, true, false, ◌&&◌, refl}
use Rattle.std.specs.List.Sorted.{IsStrictlySortedBy}
use Rattle.std.specs.Ordering.{is_lt}
use Rattle.std.specs.declared.cmp.Ordering.{Ordering}
use Rattle.std.specs.declared.cmp.Ordering.TheVariants.{Less, Equal, Greater}
use Rattle.canonical_json.specs.Spelling.{AreRising}
use Rattle.document_parts.specs.Sorted.{AreInOrder, compared}
use Rattle.document_parts.specs.steps.Rising.{rises}
use Rattle.document_parts.proofs.Halving.{in_order}

is_less : (o : Ordering) → is_lt o ≡ true → o ≡ Less
is_less Less h = refl
is_less Equal h = absurd (cc)
is_less Greater h = absurd (cc)

both : (a b : Bool) → a && b ≡ true → (a ≡ true) × (b ≡ true)
both true b h = (refl, h)
both false b h = absurd (cc)

rising : (ns : List (List ℕ)) → rises ns ≡ true → AreRising ns
rising [] h = tt
rising (n ∷ []) h = tt
rising (a ∷ b ∷ ns) h =
    let parts = both (is_lt (compared a b)) (rises (b ∷ ns)) h in
    (is_less (compared a b) parts.0, rising (b ∷ ns) parts.1)

pub rises_in_order : (ns : List (List ℕ)) → rises ns ≡ true → AreInOrder ns
rises_in_order ns h = in_order ns (rising ns h)

pub in_order_rises : (ns : List (List ℕ)) → AreInOrder ns → rises ns ≡ true
unfolding IsStrictlySortedBy
in_order_rises [] s = refl
in_order_rises (a ∷ []) s = refl
in_order_rises (a ∷ b ∷ ns) s = rw (s.0.0, in_order_rises (b ∷ ns) s.1) refl
