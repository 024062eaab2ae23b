-- States without their blobs' bytes.
use Rattle.std.proofs.Common.{◌≡◌, ℕ, List, [], ◌∷◌, filter, length, not, Bool, true, false, Option, Some, None, refl, sym, ap, ◌∙◌, subst}
use Rattle.std.proofs.lemmas.Bool.{true≢false}
use Rattle.std.proofs.lemmas.List.{length-map}
use Rattle.std.proofs.lemmas.List.Elements.{recursion_from_All, All-from_recursion}
use Rattle.std.specs.Prelude.{◌↔◌, ◌≤◌, bytes_eq, option_map, unwrap_or, IsSome, IfNone}
use Rattle.std.specs.List.{AllByRecursion}
use Rattle.metadata.specs.File.{Bytes}
use Rattle.limits.specs.Limits.{blob_limit}
use Rattle.delegations.specs.Delegation.{before}
use Rattle.delegations.specs.Rows.{Rises, value_at, with_row}
use Rattle.delegations.specs.steps.Rising.{comes_first, rises}
use Rattle.delegations.proofs.KeyOrder.{orders_bytes}
use Rattle.delegations.proofs.RisingKeys.{rises_tells}
use Rattle.trust_rules.proofs.GoneKeys.{map_filter}
use Rattle.trust_rules.specs.Effects.{Effects, applied, brought, with_blobs, without}
use Rattle.repository_rows.specs.Contents.{lengths_of}
use Rattle.trust_rules.specs.Held.{Held, IsHeld, held_of, held_with, length_at, with_lengths, bytes_at}
use Rattle.trust_rules.specs.State.{State, Trusted, IsBlob, IsState, blob_at}

-- one more blob is one more length
one_more : (rows : List (Bytes × Bytes)) (digest b : Bytes) → lengths_of (with_row before rows digest b) ≡ with_row before (lengths_of rows) digest (length b)
one_more [] digest b = refl
one_more (row ∷ rows) digest b = at (before digest row.0) refl (one_more rows digest b)
  where
    at : (t : Bool) → before digest row.0 ≡ t → lengths_of (with_row before rows digest b) ≡ with_row before (lengths_of rows) digest (length b)
        → lengths_of (with_row before (row ∷ rows) digest b) ≡ with_row before (lengths_of (row ∷ rows)) digest (length b)
    at true e later = rw e refl
    at false e later = rw e (ap (λ (l : List (Bytes × ℕ)). (row.0, length row.1) ∷ l) later)

pub lengths_with : (rows more : List (Bytes × Bytes)) → lengths_of (with_blobs rows more) ≡ with_lengths (lengths_of rows) more
lengths_with rows [] = refl
lengths_with rows (b ∷ bs) =
    lengths_with (with_row before rows b.0 b.1) bs ∙ ap (λ (l : List (Bytes × ℕ)). with_lengths l bs) (one_more rows b.0 b.1)

lengths_left : (rows : List (Bytes × Bytes)) (keys : List Bytes) → lengths_of (without bytes_eq rows keys) ≡ without bytes_eq (lengths_of rows) keys
lengths_left rows [] = refl
lengths_left rows (key ∷ keys) =
    lengths_left (filter (λ b. not (bytes_eq b.0 key)) rows) keys
    ∙ ap (λ (l : List (Bytes × ℕ)). without bytes_eq l keys) (map_filter (λ (b : Bytes × Bytes). (b.0, length b.1)) (λ (b : Bytes × ℕ). not (bytes_eq b.0 key)) rows)

pub held_applied : (S : State) (E : Effects) → held_of (applied S E) ≡ held_with (held_of S) E
held_applied S E = ap (λ (l : List (Bytes × ℕ)). record { trusted = brought S.trusted E; blobs = l })
    (lengths_with (without bytes_eq S.blobs E.gone.blobs) E.blobs ∙ ap (λ (l : List (Bytes × ℕ)). with_lengths l E.blobs) (lengths_left S.blobs E.gone.blobs))

-- digests rise as they did
same_first : (key : Bytes) (rows : List (Bytes × Bytes)) → comes_first before key (lengths_of rows) ≡ comes_first before key rows
same_first key [] = refl
same_first key (row ∷ rows) = refl

pub same_rises : (rows : List (Bytes × Bytes)) → rises before (lengths_of rows) ≡ rises before rows
same_rises [] = refl
same_rises (row ∷ rows) = rw (same_first row.0 rows, same_rises rows) refl

rise_so : (rows : List (Bytes × Bytes)) → Rises before rows → Rises before (lengths_of rows)
rise_so rows r =
    (rises_tells before bytes_eq orders_bytes (lengths_of rows)).0 (same_rises rows ∙ (rises_tells before bytes_eq orders_bytes rows).1 r)

are_short : (rows : List (Bytes × Bytes)) → AllByRecursion IsBlob rows → AllByRecursion (λ b. b.1 ≤ blob_limit) (lengths_of rows)
are_short [] all = tt
are_short (row ∷ rows) all = (all.0.short, are_short rows all.1)

no_lengths : {A : Type 0} (o : Option A) (rows : List (Bytes × Bytes)) → IfNone o (rows ≡ []) → IfNone o (lengths_of rows ≡ [])
no_lengths None rows e = ap lengths_of e
no_lengths (Some a) rows e = tt

pub held_valid : (S : State) → IsState S → IsHeld (held_of S)
held_valid S valid = record {
  trusted = valid.trusted;
  none = no_lengths S.trusted.root S.blobs valid.none;
  short = All-from_recursion (λ b. b.1 ≤ blob_limit) (lengths_of S.blobs) (are_short S.blobs (recursion_from_All IsBlob S.blobs valid.blobs));
  in_order = rise_so S.blobs valid.in_order;
  few_blobs = simp length-map valid.few_blobs;
}

-- the length under a digest is that of the bytes under it
pub same_length : (rows : List (Bytes × Bytes)) (digest : Bytes) → length_at (lengths_of rows) digest ≡ option_map length (value_at bytes_eq rows digest)
same_length [] digest = refl
same_length (row ∷ rows) digest = at (bytes_eq row.0 digest) refl (same_length rows digest)
  where
    at : (t : Bool) → bytes_eq row.0 digest ≡ t → length_at (lengths_of rows) digest ≡ option_map length (value_at bytes_eq rows digest)
        → length_at (lengths_of (row ∷ rows)) digest ≡ option_map length (value_at bytes_eq (row ∷ rows) digest)
    at true e later = rw e refl
    at false e later = rw e later

-- what is trusted without any blobs is a state
abbrev pub bare : Trusted → State
bare T = record { trusted = T; blobs = [] }

pub same_trusted_held : {H : Held} {T : Trusted} (S : State) → held_of S ≡ H → T ≡ H.trusted → T ≡ S.trusted
same_trusted_held S is view = view ∙ ap (λ (H : Held). H.trusted) (sym is)

-- a state whose trust is seen
pub seen_so : {T : Trusted} (S : State) → T ≡ S.trusted → record { trusted = T; blobs = S.blobs } ≡ S
seen_so S view = ap (λ (T : Trusted). record { trusted = T; blobs = S.blobs }) view

pub lengths_are : {H : Held} {l : List (Bytes × ℕ)} (S : State) → held_of S ≡ H → l ≡ H.blobs → lengths_of S.blobs ≡ l
lengths_are S is view = ap (λ (H : Held). H.blobs) is ∙ sym view

-- whether a blob is there, and how many there are, is told by the lengths
some_length : (o : Option Bytes) → IsSome (option_map length o) → IsSome o
some_length (Some b) h = refl
some_length None h = absurd (true≢false (sym h))

length_some : (o : Option Bytes) → IsSome o → IsSome (option_map length o)
length_some (Some b) h = refl
length_some None h = absurd (true≢false (sym h))

pub is_there : {l : List (Bytes × ℕ)} (S : State) (digest : Bytes) → lengths_of S.blobs ≡ l → (IsSome (length_at l digest)) ↔ (IsSome (blob_at S.blobs digest))
is_there S digest is = (
  (λ h. some_length (blob_at S.blobs digest) (subst (λ (o : Option ℕ). IsSome o) (same_length S.blobs digest) (subst (λ (r : List (Bytes × ℕ)). IsSome (length_at r digest)) (sym is) h))),
  (λ h. subst (λ (r : List (Bytes × ℕ)). IsSome (length_at r digest)) is (subst (λ (o : Option ℕ). IsSome o) (sym (same_length S.blobs digest)) (length_some (blob_at S.blobs digest) h))),
)

pub as_many : {l : List (Bytes × ℕ)} (S : State) → lengths_of S.blobs ≡ l → length l ≡ length S.blobs
as_many S is = ap length (sym is) ∙ length-map S.blobs (λ (b : Bytes × Bytes). (b.0, length b.1))

-- the bytes under a digest by their length
none_so : (o : Option Bytes) → option_map length o ≡ None → o ≡ None
none_so None e = refl
none_so (Some b) e = absurd cc

some_so : {n : ℕ} (o : Option Bytes) → option_map length o ≡ Some n → (o ≡ Some (unwrap_or o [])) × (length (unwrap_or o []) ≡ n)
some_so None e = absurd cc
some_so (Some b) e = (refl, ap (λ (o : Option ℕ). unwrap_or o (length b)) e)

pub no_blob : {l : List (Bytes × ℕ)} (S : State) (digest : Bytes) → lengths_of S.blobs ≡ l → length_at l digest ≡ None → blob_at S.blobs digest ≡ None
no_blob S digest is e =
    none_so (blob_at S.blobs digest) (sym (same_length S.blobs digest) ∙ ap (λ (r : List (Bytes × ℕ)). length_at r digest) is ∙ e)

pub blob_so : {l : List (Bytes × ℕ)} {n : ℕ} (S : State) (digest : Bytes) → lengths_of S.blobs ≡ l → length_at l digest ≡ Some n
    → (blob_at S.blobs digest ≡ Some (bytes_at S digest)) × (length (bytes_at S digest) ≡ n)
blob_so S digest is e =
    some_so (blob_at S.blobs digest) (sym (same_length S.blobs digest) ∙ ap (λ (r : List (Bytes × ℕ)). length_at r digest) is ∙ e)

pub both_held : {T U : Trusted} {l m : List (Bytes × ℕ)} → T ≡ U → l ≡ m → (◌≡◌ {A = Held} (record { trusted = T; blobs = l }) (record { trusted = U; blobs = m }))
both_held p q = λ i. record { trusted = p i; blobs = q i }

-- what changes make of a state, they make of what is held of it
pub taken : {H : Held} (S : State) (E : Effects) → held_of S ≡ H → IsState (applied S E) → IsHeld (held_with H E)
taken S E is valid = subst IsHeld (held_applied S E ∙ ap (λ (H : Held). held_with H E) is) (held_valid (applied S E) valid)
