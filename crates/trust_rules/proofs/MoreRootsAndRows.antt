-- One more root, one more row.
use Rattle.std.proofs.Common.{◌≡◌, ℕ, zero, suc, List, [], ◌∷◌, ◌++◌, map, length, Option, Some, refl, sym, ap, ◌∙◌, slice_index_or, arith, ◌+◌}
use Rattle.std.proofs.lemmas.List.{map-append}
use Rattle.metadata.specs.File.{Bytes, File}
use Rattle.document_parts.specs.Documents.{Profile, Root, Timestamp, Snapshot, Targets}
use Rattle.delegations.specs.Rows.{Rows, Place, with_row, with_rows, place_before}
use Rattle.delegations.specs.Views.{row_views}
use Rattle.delegations.specs.declared.rows.Row.{Row}
use Rattle.trust_rules.specs.State.{Trusted, kept_root}
use Rattle.trust_rules.proofs.RowsInOrder.{length_with_row}
use Rattle.trust_rules.specs.Effects.{last_or}

-- the last of a list that is seen through f
pub last_at : {A B : Type 0} (f : A → B) (o : Option B) (xs : List A) (x : A) (k : ℕ) → length xs ≡ suc k → x ≡ slice_index_or xs k x → last_or o (map f xs) ≡ Some (f x)
last_at f o [] x k len is = absurd (omega arith)
last_at f o (y ∷ []) x zero len is = ap (λ z. Some (f z)) (sym is)
last_at f o (y ∷ []) x (suc k) len is = absurd (omega arith)
last_at f o (y ∷ z ∷ zs) x zero len is = absurd (omega arith)
last_at f o (y ∷ z ∷ zs) x (suc k) len is = last_at f (Some (f y)) (z ∷ zs) x k (omega arith) is

pub last_of : {A : Type 0} (o : Option A) (xs : List A) (x : A) → last_or o (xs ++ x ∷ []) ≡ Some x
last_of o [] x = refl
last_of o (y ∷ ys) x = last_of (Some y) ys x

pub rows_more : (rows more : Rows) (row : Place × File Targets) → with_rows rows (more ++ row ∷ []) ≡ with_row place_before (with_rows rows more) row.0 row.1
rows_more rows [] row = refl
rows_more rows (r ∷ more) row = rows_more (with_row place_before rows r.0 r.1) more row

join : (xs ys : List (Profile × Bytes)) (b : Profile × Bytes) → (xs ++ (ys ++ b ∷ [])) ≡ ((xs ++ ys) ++ b ∷ [])
join [] ys b = refl
join (x ∷ xs) ys b = ap (λ (l : List (Profile × Bytes)). x ∷ l) (join xs ys b)

abbrev trusted : Option (File Timestamp) → Option (File Snapshot) → Rows → List (Profile × Bytes) → Option (File Root) → Trusted
trusted t s shelf roots root = record { roots = roots; root = root; timestamp = t; snapshot = s; shelf = shelf }

-- the roots with one more, and the last of them
pub one_more_root : {A : Type 0} (f : A → File Root) (t : Option (File Timestamp)) (s : Option (File Snapshot)) (shelf : Rows) (roots : List (Profile × Bytes)) (root : Option (File Root)) (xs : List A) (x : A)
    → trusted t s shelf (roots ++ map kept_root (map f (xs ++ x ∷ []))) (last_or root (map f (xs ++ x ∷ [])))
    ≡ trusted t s shelf ((roots ++ map kept_root (map f xs)) ++ kept_root (f x) ∷ []) (Some (f x))
one_more_root {A} f t s shelf roots root xs x =
    let more : map f (xs ++ x ∷ []) ≡ map f xs ++ f x ∷ [] = map-append f xs (x ∷ []) in
    ap (λ (l : List (File Root)). trusted t s shelf (roots ++ map kept_root l) (last_or root l)) more
    ∙ (ap (λ (l : List (Profile × Bytes)). trusted t s shelf (roots ++ l) (last_or root (map f xs ++ f x ∷ []))) (map-append kept_root (map f xs) (f x ∷ []))
    ∙ (ap (λ (l : List (Profile × Bytes)). trusted t s shelf l (last_or root (map f xs ++ f x ∷ []))) (join roots (map kept_root (map f xs)) (kept_root (f x)))
    ∙ ap (λ (o : Option (File Root)). trusted t s shelf ((roots ++ map kept_root (map f xs)) ++ kept_root (f x) ∷ []) o) (last_of root (map f xs) (f x))))

-- the shelf with one more row
pub one_more_row : {A : Type 0} (f : A → Place × File Targets) (roots : List (Profile × Bytes)) (root : Option (File Root)) (t : Option (File Timestamp)) (s : Option (File Snapshot)) (rows : Rows) (xs : List A) (x : A)
    → trusted t s (with_rows rows (map f (xs ++ x ∷ []))) roots root
    ≡ trusted t s (with_row place_before (with_rows rows (map f xs)) (f x).0 (f x).1) roots root
one_more_row f roots root t s rows xs x =
    ap (λ (l : Rows). trusted t s (with_rows rows l) roots root) (map-append f xs (x ∷ []))
    ∙ ap (λ (l : Rows). trusted t s l roots root) (rows_more rows (map f xs) (f x))

pub rows_long : (rows more : Rows) → length (with_rows rows more) ≡ length rows + length more
rows_long rows [] = omega arith
rows_long rows (r ∷ more) =
    rows_long (with_row place_before rows r.0 r.1) more ∙ (ap (λ n. n + length more) (length_with_row place_before rows r.0 r.1) ∙ omega arith)

views_length : (rows : List Row) → length (row_views rows) ≡ length rows
views_length [] = refl
views_length (row ∷ rows) = ap suc (views_length rows)

pub views_long : (held added : List Row) → length (row_views held) + length (row_views added) ≡ length held + length added
views_long held added = ap (λ n. n + length (row_views added)) (views_length held) ∙ ap (λ n. length held + n) (views_length added)
