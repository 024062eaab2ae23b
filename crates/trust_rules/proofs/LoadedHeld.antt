-- What is held of the state of which all the rows are at hand, but for the bytes of its blobs.
use Rattle.std.proofs.Common.{◌≡◌, ◌∙◌, ℕ, List, [], ◌∷◌, Option, Some, None, refl, sym, ap, subst, arith}
use Rattle.std.proofs.lemmas.List.{length-map}
use Rattle.std.proofs.lemmas.List.Elements.{All-nil, recursion_from_All, All-from_recursion}
use Rattle.std.specs.Prelude.{◌≤◌, All, IfNone, bytes_eq}
use Rattle.std.specs.List.{AllByRecursion}
use Rattle.sha2.specs.Sha256.{sha256}
use Rattle.limits.specs.Limits.{blob_limit}
use Rattle.repository_rows.specs.Contents.{Contents, contents_with, lengths_of}
use Rattle.repository_rows.specs.declared.MetadataRows.{MetadataRows}
use Rattle.metadata.specs.File.{Bytes}
use Rattle.delegations.specs.Delegation.{before}
use Rattle.delegations.proofs.KeyOrder.{orders_bytes}
use Rattle.delegations.proofs.RisingKeys.{none_rise, rises_tells}
use Rattle.trust_rules.specs.Contents.{contents_of}
use Rattle.trust_rules.specs.Held.{Held, IsHeld, held_of}
use Rattle.trust_rules.specs.State.{State, Trusted, IsBlob, IsState}
use Rattle.trust_rules.proofs.HeldStates.{bare, both_held, held_valid, same_rises}
use Rattle.trust_rules.proofs.ShapedOnce.{Shapes}
use Rattle.trust_rules.proofs.RowsOfOneState.{one_state}

-- ---- a state without its blobs

if_none_so : {A P : Type 0} (o : Option A) → P → IfNone o P
if_none_so None p = p
if_none_so (Some a) p = tt

bare_valid : (S : State) → IsState S → IsState (bare S.trusted)
bare_valid S s = record {
  trusted = s.trusted;
  none = if_none_so S.trusted.root refl;
  blobs = All-nil IsBlob;
  in_order = none_rise before;
  few_blobs = omega arith;
}

bare_contents : (m : MetadataRows) (rows : List (Bytes × Bytes)) (S : State) → contents_of S ≡ contents_with m rows → contents_of (bare S.trusted) ≡ contents_with m []
bare_contents m rows S e = ap (λ (C : Contents). record C { blobs = [] }) e

-- where no state has the rows of the metadata alone, none has them with blobs
pub none_with : (m : MetadataRows) (rows : List (Bytes × Bytes)) → ((S : State) → IsState S → contents_of S ≡ contents_with m [] → ⊥)
    → (S : State) → IsState S → contents_of S ≡ contents_with m rows → ⊥
none_with m rows none S s e = none (bare S.trusted) (bare_valid S s) (bare_contents m rows S e)

-- ---- lengths of the blobs of a state

no_blobs : {A : Type 0} (o : Option A) (rows : List (Bytes × Bytes)) → IfNone o (lengths_of rows ≡ []) → IfNone o (rows ≡ [])
no_blobs None [] e = refl
no_blobs None (row ∷ rows) e = absurd cc
no_blobs (Some a) rows e = tt

are_blobs : (rows : List (Bytes × Bytes)) → AllByRecursion (λ b. b.1 ≤ blob_limit) (lengths_of rows) → AllByRecursion (λ b. sha256 b.1 ≡ b.0) rows → AllByRecursion IsBlob rows
are_blobs [] short are = tt
are_blobs (row ∷ rows) short are = (record { digest = are.0; short = short.0 }, are_blobs rows short.1 are.1)

pub state_with_blobs : (T : Trusted) (rows : List (Bytes × Bytes)) → IsHeld (record { trusted = T; blobs = lengths_of rows }) → All (λ b. sha256 b.1 ≡ b.0) rows
    → IsState (record { trusted = T; blobs = rows })
state_with_blobs T rows h are = record {
  trusted = h.trusted;
  none = no_blobs T.root rows h.none;
  blobs = All-from_recursion IsBlob rows
      (are_blobs rows (recursion_from_All (λ b. b.1 ≤ blob_limit) (lengths_of rows) h.short) (recursion_from_All (λ b. sha256 b.1 ≡ b.0) rows are));
  in_order = (rises_tells before bytes_eq orders_bytes rows).0 (sym (same_rises rows) ∙ (rises_tells before bytes_eq orders_bytes (lengths_of rows)).1 h.in_order);
  few_blobs = simp length-map at h.few_blobs;
}

-- ---- the state of which these are all the rows

pub loaded_with : (m : MetadataRows) {l : List (Bytes × ℕ)} {H : Held} (U : State) → contents_of U ≡ contents_with m [] → H ≡ record { trusted = U.trusted; blobs = l } → IsHeld H
    → (rows : List (Bytes × Bytes)) → lengths_of rows ≡ l → All (λ b. sha256 b.1 ≡ b.0) rows
    → (S : State) × IsState S × (contents_of S ≡ contents_with m rows) × (held_of S ≡ H)
loaded_with m {l} {H} U e is valid rows lengths are =
    let same : ◌≡◌ {A = Held} (record { trusted = U.trusted; blobs = lengths_of rows }) H = both_held refl lengths ∙ sym is in (
      record { trusted = U.trusted; blobs = rows },
      state_with_blobs U.trusted rows (subst IsHeld (sym same) valid) are,
      ap (λ (C : Contents). record C { blobs = rows }) e,
      same,
    )

pub none_held : (m : MetadataRows) {l : List (Bytes × ℕ)} {T : Trusted} → Shapes → (U : State) → IsState U → contents_of U ≡ contents_with m [] → T ≡ U.trusted
    → (IsHeld (record { trusted = T; blobs = l }) → ⊥)
    → (rows : List (Bytes × Bytes)) → lengths_of rows ≡ l → (S : State) → IsState S → contents_of S ≡ contents_with m rows → ⊥
none_held m {l} {T} law U u e view not rows lengths S s f =
    let one : bare S.trusted ≡ U = one_state law (bare S.trusted) U (bare_valid S s) u (bare_contents m rows S f ∙ sym e) in
    let trusted : S.trusted ≡ T = ap (λ (S : State). S.trusted) one ∙ sym view in
    let blobs : lengths_of S.blobs ≡ l = ap (λ (C : Contents). lengths_of C.blobs) f ∙ lengths in
    not (subst IsHeld (both_held trusted blobs) (held_valid S s))
