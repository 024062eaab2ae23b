-- Changes one after the other.
use Rattle.std.proofs.Common.{◌≡◌, ℕ, zero, suc, List, [], ◌∷◌, ◌++◌, map, length, Option, Some, refl, sym, ap, arith}
use Rattle.std.specs.Prelude.{slice_index_or}
use Rattle.trust_rules.specs.Effects.{last_or}
use Rattle.std.proofs.lemmas.List.{append-nil}
use Rattle.std.proofs.Math.Seq.{append_snoc}
use Rattle.delegations.specs.Rows.{Place}
use Rattle.metadata.specs.File.{Bytes}
use Rattle.repository_tables.specs.Changes.{after, after_all}
use Rattle.repository_rows.specs.Contents.{Contents}
use Rattle.repository_tables.specs.declared.change.Change.{Change}
use Rattle.store.specs.steps.Changed.{more_blobs, more_roots, more_rows}

pub after_more : (cs : List Change) (c : Change) (t : Contents) → after_all (cs ++ c ∷ []) t ≡ after c (after_all cs t)
after_more [] c t = refl
after_more (b ∷ cs) c t = after_more cs c (after b t)

pub no_more_roots : (t : Contents) → more_roots [] t ≡ t
no_more_roots t = ap (λ l. record t { roots = l }) (append-nil t.roots)

pub no_more_rows : (t : Contents) → more_rows [] t ≡ t
no_more_rows t = ap (λ l. record t { shelf = l }) (append-nil t.shelf)

pub no_more_blobs : (t : Contents) → more_blobs [] t ≡ t
no_more_blobs t = ap (λ l. record t { blobs = l }) (append-nil t.blobs)

pub roots_then : (r : ℕ × (ℕ × Bytes)) (rs : List (ℕ × (ℕ × Bytes))) (t : Contents) → more_roots rs (more_roots (r ∷ []) t) ≡ more_roots (r ∷ rs) t
roots_then r rs t = ap (λ l. record t { roots = l }) (append_snoc t.roots r rs)

pub rows_then : (r : Place × Bytes) (rs : List (Place × Bytes)) (t : Contents) → more_rows rs (more_rows (r ∷ []) t) ≡ more_rows (r ∷ rs) t
rows_then r rs t = ap (λ l. record t { shelf = l }) (append_snoc t.shelf r rs)

pub blobs_then : (b : Bytes × Bytes) (bs : List (Bytes × Bytes)) (t : Contents) → more_blobs bs (more_blobs (b ∷ []) t) ≡ more_blobs (b ∷ bs) t
blobs_then b bs t = ap (λ l. record t { blobs = l }) (append_snoc t.blobs b bs)

-- the last of some items
pub last_at : {A B : Type 0} (f : B → A) (o : Option A) (xs : List B) (x : B) (k : ℕ) → length xs ≡ suc k → x ≡ slice_index_or xs k x → last_or o (map f xs) ≡ Some (f x)
last_at f o [] x k len is = absurd (omega arith)
last_at f o (y ∷ []) x zero len is = ap (λ z. Some (f z)) (sym is)
last_at f o (y ∷ []) x (suc k) len is = absurd (omega arith)
last_at f o (y ∷ z ∷ zs) x zero len is = absurd (omega arith)
last_at f o (y ∷ z ∷ zs) x (suc k) len is = last_at f (Some (f y)) (z ∷ zs) x k (omega arith) is
