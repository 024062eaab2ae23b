-- The rows of the tables as sets.
use Rattle.std.proofs.Common.{◌≡◌, inl, inr, ℕ, pos, List, [], ◌∷◌, map, Option, Some, None, refl, sym, ap, subst, ◌∙◌, codes}
use Rattle.sqlite.specs.Order.{Row, column}
use Rattle.sqlite_trees.specs.Tree.{Trees}
use Rattle.sqlite_rules.specs.Lists.{Has}
use Rattle.sqlite_rules.proofs.ListLemmas.{all_has}
use Rattle.sql_tables.specs.Rows.{AreRows}
use Rattle.sqlite.specs.declared.types.Value.TheVariants.{Int}
use Rattle.table_rows.specs.Rows.{current_cells, shelf_cells, blob_cells, version_cells}
use Rattle.repository_rows.specs.Contents.{Contents}
use Rattle.table_rows.specs.Tables.{HoldsFirst, HoldsTables, AreSame, IsFit, StandsFor, first_row, root_row, slot_row, version_row, current_rows, shelf_row, blob_row}
use Rattle.table_rows.specs.steps.Loading.{FitsFirst, FitsRoot, FitsSlot, FitsShelf, FitsBlob, current_items}
use Rattle.sql_tables.proofs.RowLemmas.{has_map, map_has}
use Rattle.sql_tables.proofs.Statements.{rows_same}
use Rattle.table_rows.proofs.Slots.{has_timestamp, has_snapshot}
use Rattle.table_rows.proofs.ItemLemmas.{first_fits, first_one, root_one, slot_one, shelf_one, blob_one, items_rows, apart_slots, current_fits}

mapped : {X : Type 0} (f : X → Row) (xs ys : List X) → ((x : X) → Has xs x → Has ys x) → (c : Row) → Has (map f xs) c → Has (map f ys) c
mapped f xs ys there c h = let m = map_has f xs c h in subst (Has (map f ys)) (sym m.2) (has_map f ys m.0 (there m.0 m.1))

pub same_rows : (trees : Trees) (t u : Contents) → AreSame t u → HoldsTables trees t → HoldsTables trees u
same_rows trees t u same holds = record {
  root = holds.root;
  current = subst (AreRows _ (trees 1)) (ap (λ a. current_rows a t.snapshot) same.timestamp ∙ ap (current_rows u.timestamp) same.snapshot) holds.current;
  shelf = rows_same holds.shelf (mapped shelf_row t.shelf u.shelf (λ x. (same.shelf x).0)) (mapped shelf_row u.shelf t.shelf (λ x. (same.shelf x).1));
  blob = rows_same holds.blob (mapped blob_row t.blobs u.blobs (λ x. (same.blobs x).0)) (mapped blob_row u.blobs t.blobs (λ x. (same.blobs x).1));
  version = holds.version;
  root2 = rows_same holds.root2 (mapped root_row t.roots u.roots (λ x. (same.roots x).0)) (mapped root_row u.roots t.roots (λ x. (same.roots x).1));
}

-- ---- one set of rows

module _ {X : Type 0} (row_of : X → Row) (Fits : X → Type 0) (one : (x y : X) → Fits x → Fits y → row_of x ≡ row_of y → x ≡ y) {shown : Row → Row} {stored : List Row} where
  there : (xs ys : List X) → ((x : X) → Has xs x → Fits x) → ((y : X) → Has ys y → Fits y) → AreRows shown stored (map row_of xs) → AreRows shown stored (map row_of ys) → (x : X) → Has xs x → Has ys x
  there xs ys fx fy a b x h =
      let s = a.complete (row_of x) (has_map row_of xs x h) in
      let m = map_has row_of ys (shown s.0) (b.sound s.0 s.1) in
      let same : x ≡ m.0 = one x m.0 (fx x h) (fy m.0 m.1) (sym s.2 ∙ m.2) in
      subst (Has ys) (sym same) m.1

cell : (at : ℕ) {r s : Row} → r ≡ s → column r at ≡ column s at
cell at e = ap (λ (r : Row). column r at) e

one_root : (x y : ℕ × (ℕ × List ℕ)) → FitsRoot x → FitsRoot y → root_row x ≡ root_row y → x ≡ y
one_root x y fx fy e = root_one (root_row x) x y fx fy (refl, refl, refl) (cell 0 e, cell 1 e, cell 2 e)

one_early : (x y : ℕ × (ℕ × List ℕ)) → FitsFirst x → FitsFirst y → first_row x ≡ first_row y → x ≡ y
one_early x y fx fy e = first_one (first_row x) x y fx fy (refl, refl) (cell 0 e, cell 1 e)

one_slot : (x y : List ℕ × (ℕ × List ℕ)) → FitsSlot x → FitsSlot y → slot_row x.0 x.1 ≡ slot_row y.0 y.1 → x ≡ y
one_slot x y fx fy e = slot_one (slot_row x.0 x.1) x y fx fy (refl, refl, refl) (cell 0 e, cell 1 e, cell 2 e)

one_row : (x y : (List ℕ × ℕ) × List ℕ) → FitsShelf x → FitsShelf y → shelf_row x ≡ shelf_row y → x ≡ y
one_row x y fx fy e = shelf_one (shelf_row x) x y fx fy (refl, refl, refl) (cell 0 e, cell 1 e, cell 2 e)

one_blob : (x y : List ℕ × List ℕ) → FitsBlob x → FitsBlob y → blob_row x ≡ blob_row y → x ≡ y
one_blob x y fx fy e = blob_one (blob_row x) x y fx fy (refl, refl) (cell 0 e, cell 1 e)

abbrev Slot : Type 0
Slot = Option (ℕ × List ℕ)

value_of : {K V : Type 0} {k l : K} {v w : V} → ◌≡◌ {A = K × V} (k, v) (l, w) → v ≡ w
value_of e = ap (λ z. z.1) e

key_of : {K V : Type 0} {k l : K} {v w : V} → ◌≡◌ {A = K × V} (k, v) (l, w) → k ≡ l
key_of e = ap (λ z. z.0) e

timestamp_of : (a b : Slot) (v : ℕ × List ℕ) → Has (current_items a b) (codes "timestamp", v) → a ≡ Some v
timestamp_of (Some w) b v (inl e) = ap Some (sym (value_of e))
timestamp_of (Some w) None v (inr none) = absurd none
timestamp_of (Some w) (Some z) v (inr (inl e)) = absurd (apart_slots (key_of e))
timestamp_of (Some w) (Some z) v (inr (inr none)) = absurd none
timestamp_of None None v h = absurd h
timestamp_of None (Some z) v (inl e) = absurd (apart_slots (key_of e))
timestamp_of None (Some z) v (inr none) = absurd none

snapshot_of : (a b : Slot) (v : ℕ × List ℕ) → Has (current_items a b) (codes "snapshot", v) → b ≡ Some v
snapshot_of (Some w) b v (inl e) = absurd (apart_slots (sym (key_of e)))
snapshot_of (Some w) None v (inr none) = absurd none
snapshot_of (Some w) (Some z) v (inr (inl e)) = ap Some (sym (value_of e))
snapshot_of (Some w) (Some z) v (inr (inr none)) = absurd none
snapshot_of None None v h = absurd h
snapshot_of None (Some z) v (inl e) = ap Some (sym (value_of e))
snapshot_of None (Some z) v (inr none) = absurd none

options_same : (a c : Slot) → ((v : _) → a ≡ Some v → c ≡ Some v) → ((v : _) → c ≡ Some v → a ≡ Some v) → a ≡ c
options_same None None there back = refl
options_same None (Some v) there back = back v refl
options_same (Some v) c there back = sym (there v refl)

-- what is held, whatever the roots are
record HoldsRest (trees : Trees) (t : Contents) : Type 0 where
  current : AreRows current_cells (trees 1) (current_rows t.timestamp t.snapshot)
  shelf : AreRows shelf_cells (trees 3) (map shelf_row t.shelf)
  blob : AreRows blob_cells (trees 5) (map blob_row t.blobs)

one_rest : (trees : Trees) (t u : Contents) → IsFit t → IsFit u → HoldsRest trees t → HoldsRest trees u → ((x : _) → (Has t.roots x → Has u.roots x) × (Has u.roots x → Has t.roots x)) → AreSame t u
one_rest trees t u fit_t fit_u a b roots =
    let st : (x : _) → Has t.shelf x → FitsShelf x = λ x h. all_has FitsShelf t.shelf x fit_t.shelf h in
    let su : (x : _) → Has u.shelf x → FitsShelf x = λ x h. all_has FitsShelf u.shelf x fit_u.shelf h in
    let bt : (x : _) → Has t.blobs x → FitsBlob x = λ x h. all_has FitsBlob t.blobs x fit_t.blobs h in
    let bu : (x : _) → Has u.blobs x → FitsBlob x = λ x h. all_has FitsBlob u.blobs x fit_u.blobs h in
    let ct = current_fits t.timestamp t.snapshot fit_t.timestamp fit_t.snapshot in
    let cu = current_fits u.timestamp u.snapshot fit_u.timestamp fit_u.snapshot in
    let held_t = subst (AreRows _ (trees 1)) (sym (items_rows t.timestamp t.snapshot)) a.current in
    let held_u = subst (AreRows _ (trees 1)) (sym (items_rows u.timestamp u.snapshot)) b.current in
    let to = there (λ x. slot_row x.0 x.1) FitsSlot one_slot (current_items t.timestamp t.snapshot) (current_items u.timestamp u.snapshot) ct cu held_t held_u in
    let fro = there (λ x. slot_row x.0 x.1) FitsSlot one_slot (current_items u.timestamp u.snapshot) (current_items t.timestamp t.snapshot) cu ct held_u held_t in
    record {
      roots = roots;
      timestamp = options_same t.timestamp u.timestamp (λ v e. timestamp_of u.timestamp u.snapshot v (to _ (has_timestamp t.timestamp t.snapshot v e))) (λ v e. timestamp_of t.timestamp t.snapshot v (fro _ (has_timestamp u.timestamp u.snapshot v e)));
      snapshot = options_same t.snapshot u.snapshot (λ v e. snapshot_of u.timestamp u.snapshot v (to _ (has_snapshot t.timestamp t.snapshot v e))) (λ v e. snapshot_of t.timestamp t.snapshot v (fro _ (has_snapshot u.timestamp u.snapshot v e)));
      shelf = λ x. (there shelf_row FitsShelf one_row t.shelf u.shelf st su a.shelf b.shelf x, there shelf_row FitsShelf one_row u.shelf t.shelf su st b.shelf a.shelf x);
      blobs = λ x. (there blob_row FitsBlob one_blob t.blobs u.blobs bt bu a.blob b.blob x, there blob_row FitsBlob one_blob u.blobs t.blobs bu bt b.blob a.blob x);
    }

pub one_set : (trees : Trees) (t u : Contents) → IsFit t → IsFit u → HoldsTables trees t → HoldsTables trees u → AreSame t u
one_set trees t u fit_t fit_u a b =
    let rt : (x : _) → Has t.roots x → FitsRoot x = λ x h. all_has FitsRoot t.roots x fit_t.roots h in
    let ru : (x : _) → Has u.roots x → FitsRoot x = λ x h. all_has FitsRoot u.roots x fit_u.roots h in
    one_rest trees t u fit_t fit_u (record { current = a.current; shelf = a.shelf; blob = a.blob }) (record { current = b.current; shelf = b.shelf; blob = b.blob })
    (λ x. (there root_row FitsRoot one_root t.roots u.roots rt ru a.root2 b.root2 x, there root_row FitsRoot one_root u.roots t.roots ru rt b.root2 a.root2 x))

-- the same under schema 1
pub one_first : (trees : Trees) (t u : Contents) → IsFit t → IsFit u → HoldsFirst trees t → HoldsFirst trees u → AreSame t u
one_first trees t u fit_t fit_u a b =
    let rt = first_fits t fit_t a.profiles in
    let ru = first_fits u fit_u b.profiles in
    one_rest trees t u fit_t fit_u (record { current = a.current; shelf = a.shelf; blob = a.blob }) (record { current = b.current; shelf = b.shelf; blob = b.blob })
    (λ x. (there first_row FitsFirst one_early t.roots u.roots rt ru a.root b.root x, there first_row FitsFirst one_early u.roots t.roots ru rt b.root a.root x))

-- the row of `schema` tells the two schemas apart, and both from no rows
two_versions : (m n : ℕ) (stored : List Row) → AreRows version_cells stored (version_row m ∷ []) → AreRows version_cells stored (version_row n ∷ []) → m ≡ n
two_versions m n stored a b =
    let s = a.complete (version_row m) (inl refl) in
    alone (subst (Has (version_row n ∷ [])) s.2 (b.sound s.0 s.1))
  where
    alone : Has (version_row n ∷ []) (version_row m) → m ≡ n
    alone (inl e) = let f : Int (pos m) ≡ Int (pos n) = cell 0 e in cc
    alone (inr none) = absurd none

no_version : (n : ℕ) (stored : List Row) → AreRows version_cells stored (version_row n ∷ []) → stored ≡ [] → ⊥
no_version n stored a none = let s = a.complete (version_row n) (inl refl) in subst (λ rows. Has rows s.0) none s.1

same_itself : (t : Contents) → AreSame t t
same_itself t = record { roots = λ x. ((λ h. h), (λ h. h)); timestamp = refl; snapshot = refl; shelf = λ x. ((λ h. h), (λ h. h)); blobs = λ x. ((λ h. h), (λ h. h)) }

apart : {A : Type 0} → ◌≡◌ {A = ℕ} 1 2 → A
apart e = absurd (let f : ◌≡◌ {A = ℕ} 1 2 = e in cc)

pub one_stood : (trees : Trees) (t u : Contents) → IsFit t → IsFit u → StandsFor trees t → StandsFor trees u → AreSame t u
one_stood trees t u fit_t fit_u (inl a) (inl b) = one_set trees t u fit_t fit_u a b
one_stood trees t u fit_t fit_u (inl a) (inr (inl b)) = apart (two_versions 1 2 _ b.version a.version)
one_stood trees t u fit_t fit_u (inl a) (inr (inr b)) = absurd (no_version 2 _ a.version b.0.1.1.1.1.0)
one_stood trees t u fit_t fit_u (inr (inl a)) (inl b) = apart (two_versions 1 2 _ a.version b.version)
one_stood trees t u fit_t fit_u (inr (inl a)) (inr (inl b)) = one_first trees t u fit_t fit_u a b
one_stood trees t u fit_t fit_u (inr (inl a)) (inr (inr b)) = absurd (no_version 1 _ a.version b.0.1.1.1.1.0)
one_stood trees t u fit_t fit_u (inr (inr a)) (inl b) = absurd (no_version 2 _ b.version a.0.1.1.1.1.0)
one_stood trees t u fit_t fit_u (inr (inr a)) (inr (inl b)) = absurd (no_version 1 _ b.version a.0.1.1.1.1.0)
one_stood trees t u fit_t fit_u (inr (inr a)) (inr (inr b)) = subst (λ v. AreSame t v) (a.1 ∙ sym b.1) (same_itself t)
