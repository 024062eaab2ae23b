-- The rows of a state that was changed are those that were there, with the changes.
use Rattle.std.proofs.Common.{bytes_eq, ◌≡◌, inl, inr, ℕ, suc, ◌+◌, ◌-◌, Bool, true, false, cond, List, [], ◌∷◌, ◌++◌, map, length, Option, Some, None, refl, sym, ap, ◌∙◌, subst, arith, length-append}
use Rattle.std.specs.Prelude.{option_map, unwrap_or}
use Rattle.std.proofs.lemmas.List.{append-nil, length-map, map-append}
use Rattle.std.proofs.Math.Seq.{append_snoc}
use Rattle.sqlite_rules.specs.Lists.{Has}
use Rattle.sqlite_rules.proofs.ListLemmas.{has_left, has_right, has_either}
use Rattle.document_parts.specs.Documents.{Root}
use Rattle.metadata.specs.File.{Bytes, File}
use Rattle.delegations.specs.Delegation.{before}
use Rattle.delegations.specs.Rows.{Place, Rows, place_before, same_place, with_row, with_rows}
use Rattle.trust_rules.specs.State.{State, Trusted, IsState, kept_root}
use Rattle.trust_rules.specs.Effects.{Effects, applied, last_or, renewed, with_blobs, without}
use Rattle.trust_rules.specs.Contents.{contents_of, numbered, root_rows, shelf_rows}
use Rattle.table_rows.specs.Tables.{AreSame}
use Rattle.repository_rows.specs.Contents.{Contents}
use Rattle.sql_tables.proofs.RowLemmas.{has_map, map_has}
use Rattle.store.proofs.Gone.{AreDigests, gone_rows}
use Rattle.store.specs.StateRows.{rows_of}
use Rattle.store.specs.steps.Changed.{changed, emptied_if, last_version, more, more_blobs, more_roots, more_rows, new_roots, new_snapshot, new_timestamp}

abbrev pub SameItems : {A : Type 0} → List A → List A → Type 0
SameItems {A} xs ys = (x : A) → (Has xs x → Has ys x) × (Has ys x → Has xs x)

same_refl : {A : Type 0} (xs ys : List A) → xs ≡ ys → SameItems xs ys
same_refl xs ys e x = (subst (λ l. Has l x) e, subst (λ l. Has l x) (sym e))

same_then : {A : Type 0} (xs ys zs : List A) → SameItems xs ys → SameItems ys zs → SameItems xs zs
same_then xs ys zs f g x = (λ h. (g x).0 ((f x).0 h), λ h. (f x).1 ((g x).1 h))

same_before : {A : Type 0} (xs ys zs : List A) → SameItems xs ys → SameItems (xs ++ zs) (ys ++ zs)
same_before xs ys zs f x = (both xs ys (λ h. (f x).0 h), both ys xs (λ h. (f x).1 h))
  where
    both : (ps bs : _) → (Has ps x → Has bs x) → Has (ps ++ zs) x → Has (bs ++ zs) x
    both ps bs go h = elim (has_either ps zs x h) [ inl l ↦ has_left bs zs x (go l) | inr r ↦ has_right bs zs x r ]

pub same_map : {A B : Type 0} (f : A → B) (xs ys : List A) → SameItems xs ys → SameItems (map f xs) (map f ys)
same_map f xs ys same b = (both xs ys (λ x h. (same x).0 h), both ys xs (λ x h. (same x).1 h))
  where
    both : (ps bs : _) → ((x : _) → Has ps x → Has bs x) → Has (map f ps) b → Has (map f bs) b
    both ps bs go h = let it = map_has f ps b h in subst (λ z. Has (map f bs) z) (sym it.2) (has_map f bs it.0 (go it.0 it.1))

-- a row that is put into its place is one more
module _ {K A : Type 0} (below : K → K → Bool) where
  put_same : (rows : List (K × A)) (k : K) (a : A) → SameItems (with_row below rows k a) (rows ++ (k, a) ∷ [])
  put_same [] k a x = (λ h. h, λ h. h)
  put_same (r ∷ rows) k a x = of (put_same rows k a x) (below k r.0)
    where
      put : Bool → List (K × A)
      put b = cond b ((k, a) ∷ (r ∷ rows)) (r ∷ with_row below rows k a)

      of : (Has (with_row below rows k a) x → Has (rows ++ (k, a) ∷ []) x) × (Has (rows ++ (k, a) ∷ []) x → Has (with_row below rows k a) x)
          → (b : Bool) → (Has (put b) x → Has (r ∷ (rows ++ (k, a) ∷ [])) x) × (Has (r ∷ (rows ++ (k, a) ∷ [])) x → Has (put b) x)
      of so true = (
        (λ h. elim h [ inl is ↦ inr (has_right rows ((k, a) ∷ []) x (inl is)) | inr (inl is) ↦ inl is | inr (inr later) ↦ inr (has_left rows ((k, a) ∷ []) x later) ]),
        (λ h. elim h [ inl is ↦ inr (inl is) | inr later ↦ elim (has_either rows ((k, a) ∷ []) x later) [ inl l ↦ inr (inr l) | inr (inl is) ↦ inl is | inr (inr none) ↦ absurd none ] ]),
      )
      of so false = (
        (λ h. elim h [ inl is ↦ inl is | inr later ↦ inr (so.0 later) ]),
        (λ h. elim h [ inl is ↦ inl is | inr later ↦ inr (so.1 later) ]),
      )

  module _ (put : List (K × A) → List (K × A) → List (K × A)) (none : (xs : List (K × A)) → put xs [] ≡ xs)
      (more : (xs : List (K × A)) (r : K × A) (rs : List (K × A)) → put xs (r ∷ rs) ≡ put (with_row below xs r.0 r.1) rs) where
    puts_same : (rows new : List (K × A)) → SameItems (put rows new) (rows ++ new)
    puts_same rows [] = same_refl (put rows []) (rows ++ []) (none rows ∙ sym (append-nil rows))
    puts_same rows (r ∷ new) =
        let first = with_row below rows r.0 r.1 in
        same_then (put rows (r ∷ new)) (first ++ new) (rows ++ r ∷ new)
        (same_then (put rows (r ∷ new)) (put first new) (first ++ new) (same_refl _ _ (more rows r new)) (puts_same first new))
        (same_then (first ++ new) ((rows ++ r ∷ []) ++ new) (rows ++ r ∷ new) (same_before first (rows ++ r ∷ []) new (put_same rows r.0 r.1))
        (same_refl _ _ (append_snoc rows r new)))

-- the rows of new roots
new_same : (T : Trusted) (v : ℕ) → unwrap_or (option_map (λ root. root.body.version) T.root) 0 ≡ v → (k : ℕ) (rs : List (File Root))
    → length T.roots ≡ k + length rs → new_roots v rs ≡ root_rows T k (map kept_root rs)
new_same T v is k [] e = refl
new_same T v is k (r ∷ rs) e =
    let here : v - length rs ≡ v + k + 1 - length T.roots = omega (arith, e) in
    rw (is, ← here, new_same T v is (suc k) rs (omega (arith, e))) refl

roots_same : (S : State) (E : Effects) → root_rows (applied S E).trusted (length S.trusted.roots) (map kept_root E.roots) ≡ new_roots (last_version E.roots) E.roots
roots_same S E = of E.roots refl
  where
    many : length (applied S E).trusted.roots ≡ length S.trusted.roots + length E.roots
    many = simp (length-append, length-map) refl

    of : (rs : List (File Root)) → E.roots ≡ rs → root_rows (applied S E).trusted (length S.trusted.roots) (map kept_root rs) ≡ new_roots (last_version rs) rs
    of [] e = refl
    of (r ∷ rs) e =
        sym (new_same (applied S E).trusted (last_version (r ∷ rs)) (ap (λ l. unwrap_or (option_map (λ root. root.body.version) (last_or S.trusted.root l)) 0) e)
        (length S.trusted.roots) (r ∷ rs) (many ∙ ap (λ l. length S.trusted.roots + length l) e))

as_fields : (gone : Bool) (t s : Option (ℕ × Bytes)) (roots : List (ℕ × (ℕ × Bytes))) (rows : List (Place × Bytes)) (blobs : List (Bytes × Bytes)) (T : Contents)
    → more_blobs blobs (more_rows rows (new_snapshot s (new_timestamp t (emptied_if gone (more_roots roots T)))))
    ≡ record { roots = T.roots ++ roots; timestamp = renewed gone T.timestamp t; snapshot = renewed gone T.snapshot s; shelf = cond gone [] T.shelf ++ rows; blobs = T.blobs ++ blobs }
as_fields true None None roots rows blobs T = refl
as_fields true None (Some s) roots rows blobs T = refl
as_fields true (Some t) None roots rows blobs T = refl
as_fields true (Some t) (Some s) roots rows blobs T = refl
as_fields false None None roots rows blobs T = refl
as_fields false None (Some s) roots rows blobs T = refl
as_fields false (Some t) None roots rows blobs T = refl
as_fields false (Some t) (Some s) roots rows blobs T = refl

renewed_rows : {A B : Type 0} (f : A → B) (gone : Bool) (old new : Option A) → renewed gone (option_map f old) (option_map f new) ≡ option_map f (renewed gone old new)
renewed_rows f gone old (Some x) = refl
renewed_rows f true old None = refl
renewed_rows f false old None = refl

kept_rows : (gone : Bool) (rows new : Rows) → cond gone [] (shelf_rows rows) ++ shelf_rows new ≡ shelf_rows (cond gone [] rows ++ new)
kept_rows true rows new = refl
kept_rows false rows new = sym (map-append (λ row. (row.0, row.1.bytes)) rows new)

-- what is written is what the state then has
pub changed_is : (S : State) (E : Effects) → AreDigests S.blobs → IsState S → IsState (applied S E)
    → (contents_of (applied S E)).roots ≡ (contents_of S).roots ++ root_rows (applied S E).trusted (length S.trusted.roots) (map kept_root E.roots)
    → AreSame (changed E (rows_of S)) (rows_of (applied S E))
changed_is S E digests s t roots =
    let rows = without same_place S.trusted.shelf E.gone.rows in
    let blobs = without bytes_eq S.blobs E.gone.blobs in
    let shelf = cond E.emptied [] rows in
    subst (λ T. AreSame T (rows_of (applied S E)))
    (sym (ap (more E) (gone_rows S E.gone.rows E.gone.blobs digests)
    ∙ as_fields E.emptied (option_map (numbered (λ b. b.version)) E.timestamp) (option_map (numbered (λ b. b.version)) E.snapshot)
    (new_roots (last_version E.roots) E.roots) (shelf_rows E.rows) E.blobs (record (rows_of S) { shelf = shelf_rows rows; blobs = blobs })))
    (record {
      roots = same_refl _ _ (sym (roots ∙ ap (λ l. (contents_of S).roots ++ l) (roots_same S E)));
      timestamp = renewed_rows (numbered (λ b. b.version)) E.emptied S.trusted.timestamp E.timestamp;
      snapshot = renewed_rows (numbered (λ b. b.version)) E.emptied S.trusted.snapshot E.snapshot;
      shelf = same_then _ _ _ (same_refl _ _ (kept_rows E.emptied rows E.rows))
          (same_map (λ row. (row.0, row.1.bytes)) (shelf ++ E.rows) (with_rows shelf E.rows)
          (λ x. let p = puts_same place_before with_rows (λ xs. refl) (λ xs r rs. refl) shelf E.rows x in (p.1, p.0)));
      blobs = λ x. let p = puts_same before with_blobs (λ xs. refl) (λ xs r rs. refl) blobs E.blobs x in (p.1, p.0);
    })
