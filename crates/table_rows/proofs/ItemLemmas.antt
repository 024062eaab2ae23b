-- What the items of the answers say of the trees.
use Rattle.std.proofs.Common.{◌≡◌, ◌≢◌, ◌⊎◌, inl, inr, Bool, Vec, Global, if◌then◌else◌, arith, false, ◌<◌, ◌^◌, ℕ, pos, List, [], ◌∷◌, map, Option, Some, None, true, refl, sym, ap, subst, subst₂, ◌∙◌, codes, true≢false}
use Rattle.std.specs.List.{AllByRecursion}
use Rattle.std.specs.List.Sorted.{IsStrictlySortedBy}
use Rattle.std.specs.Ordering.{nat_cmp, ordering_then}
use Rattle.std.specs.Cmp.Lexicographic.{slice_cmp}
use Rattle.std.specs.declared.cmp.Ordering.{Ordering}
use Rattle.std.specs.declared.cmp.Ordering.TheVariants.{Less, Equal}
use Rattle.hex.specs.Hex.{encode_lower, decode_of}
use Rattle.sha2.specs.Sha256.{sha256}
use Rattle.hex.proofs.HexLemmas.{decode_of-encode_lower}
use Rattle.sqlite.specs.declared.types.Value.TheVariants.{Int, Text}
use Rattle.sqlite.specs.Order.{Row, column, value_cmp}
use Rattle.sqlite_trees.specs.Tree.{Trees}
use Rattle.sqlite_rules.specs.Lists.{Has}
use Rattle.sqlite_rules.proofs.ListLemmas.{all_has, all_from}
use Rattle.table_rows.specs.Rows.{root_cells, root2_cells, current_cells, shelf_cells, blob_cells, version_cells}
use Rattle.sql_tables.specs.Rows.{AreRows, AreKeyed}
use Rattle.repository_rows.specs.declared.MetadataRows.{MetadataRows}
use Rattle.repository_rows.specs.Contents.{Contents, contents_with, lengths_of, no_rows}
use Rattle.table_rows.specs.Tables.{HaveDigests, AreBare, StandsFor, IsFit, IsDigest, AreRising, first_row, root_row, slot_row, current_rows, shelf_row, blob_row, version_row, row_cmp}
use Rattle.table_rows.specs.steps.Loading.{AllComeOnce, QueriedRows, AreQueried, AreVersions, length_shows, root_shows, AreItems, AreSorted, AreDamaged, root, current, shelf, blob, root2, mixed, crossed, IsFirstRow, FitsFirst, IsRootRow, FitsRoot, IsSlotRow, FitsSlot, IsShelfRow, FitsShelf, IsBlobRow, FitsBlob, IsLengthRow, FitsLength, IsOf, AreContents, AreRoots, Tell, AreSingle, current_items}
use Rattle.table_rows.specs.Reading.{HoldsAs, IsUnbegun}
use Rattle.table_rows.specs.Reading.{IsReadAs}
use Rattle.table_rows.proofs.FileLemmas.{FitsFile, digests_are, files_fit, files_of, files_read, keys_are, lengths_are, spoiled_files}
use Rattle.sql_tables.specs.Loading.{AreGathered, AreLoaded, AreOrdered, AreRead, AreSpoiled, with_rowid, rises}
use Rattle.std.proofs.lemmas.Cmp.{nat_cmp_total, nat_list_cmp_total}
use Rattle.table_rows.proofs.Slots.{has_timestamp, has_snapshot}
use Rattle.sql_tables.proofs.MakingLemmas.{no_rows as no_stored}
use Rattle.table_rows.proofs.Beginnings.{none_held}
use Rattle.sql_tables.proofs.Gathering.{read_all, no_items}
use Rattle.sql_tables.proofs.NumberLemmas.{IsNumbered, numbered_by}
use Rattle.sql_tables.proofs.ListLemmas.{bytes_at}
use Rattle.table_rows.proofs.Orders.{digits_less, row_cmp_total}
use Rattle.sql_tables.proofs.ItemLemmas.{after_less, bytes_one, int_less, int_one, no_member, none_answered, none_read, none_stored, not_bare, pair_less, rising_keyed, text_less, text_one}

-- ---- a row is that of one item

root_are : (s : Row) (x : ℕ × (ℕ × List ℕ)) → IsRootRow (root2_cells s) x → root2_cells s ≡ root_row x
root_are s x is = ap (λ v. v ∷ column s 2 ∷ column s 3 ∷ []) is.0 ∙ ap (λ v. Int (pos x.0) ∷ v ∷ column s 3 ∷ []) is.1 ∙ ap (λ v. Int (pos x.0) ∷ Int (pos x.1.0) ∷ v ∷ []) is.2

first_are : (s : Row) (x : ℕ × (ℕ × List ℕ)) → IsFirstRow (root_cells s) x → root_cells s ≡ first_row x
first_are s x is = ap (λ v. v ∷ column s 2 ∷ []) is.0 ∙ ap (λ v. Int (pos x.0) ∷ v ∷ []) is.1

slot_are : (s : Row) (x : List ℕ × (ℕ × List ℕ)) → IsSlotRow (with_rowid current_cells s) x → current_cells s ≡ slot_row x.0 x.1
slot_are s x is = ap (λ v. v ∷ column s 2 ∷ column s 3 ∷ []) is.0 ∙ ap (λ v. Text x.0 ∷ v ∷ column s 3 ∷ []) is.1 ∙ ap (λ v. Text x.0 ∷ Int (pos x.1.0) ∷ v ∷ []) is.2

shelf_are : (s : Row) (x : (List ℕ × ℕ) × List ℕ) → IsShelfRow (with_rowid shelf_cells s) x → shelf_cells s ≡ shelf_row x
shelf_are s x is = ap (λ v. v ∷ column s 2 ∷ column s 3 ∷ []) is.0 ∙ ap (λ v. Text x.0.0 ∷ v ∷ column s 3 ∷ []) is.1 ∙ ap (λ v. Text x.0.0 ∷ Int (pos x.0.1) ∷ v ∷ []) is.2

blob_are : (s : Row) (x : List ℕ × List ℕ) → IsBlobRow (with_rowid blob_cells s) x → blob_cells s ≡ blob_row x
blob_are s x is = ap (λ v. v ∷ column s 2 ∷ []) is.0 ∙ ap (λ v. Text (encode_lower x.0) ∷ v ∷ []) is.1

-- and it reads as the item whose cells it has

root_reads : (s : Row) (x : ℕ × (ℕ × List ℕ)) → root2_cells s ≡ root_row x → IsRootRow (root2_cells s) x
root_reads s x e = (ap (λ c. column c 0) e, ap (λ c. column c 1) e, ap (λ c. column c 2) e)

first_reads : (s : Row) (x : ℕ × (ℕ × List ℕ)) → root_cells s ≡ first_row x → IsFirstRow (root_cells s) x
first_reads s x e = (ap (λ c. column c 0) e, ap (λ c. column c 1) e)

slot_reads : (s : Row) (x : List ℕ × (ℕ × List ℕ)) → current_cells s ≡ slot_row x.0 x.1 → IsSlotRow (with_rowid current_cells s) x
slot_reads s x e = (ap (λ c. column c 0) e, ap (λ c. column c 1) e, ap (λ c. column c 2) e)

shelf_reads : (s : Row) (x : (List ℕ × ℕ) × List ℕ) → shelf_cells s ≡ shelf_row x → IsShelfRow (with_rowid shelf_cells s) x
shelf_reads s x e = (ap (λ c. column c 0) e, ap (λ c. column c 1) e, ap (λ c. column c 2) e)

blob_reads : (s : Row) (x : List ℕ × List ℕ) → blob_cells s ≡ blob_row x → IsBlobRow (with_rowid blob_cells s) x
blob_reads s x e = (ap (λ c. column c 0) e, ap (λ c. column c 1) e)

pub root_one : (r : Row) (x y : ℕ × (ℕ × List ℕ)) → FitsRoot x → FitsRoot y → IsRootRow r x → IsRootRow r y → x ≡ y
root_one r x y fx fy a b = let n = int_one x.0 y.0 _ a.0 b.0 in let p = int_one x.1.0 y.1.0 _ a.1 b.1 in let v = bytes_one x.1.1 y.1.1 _ a.2 b.2 in λ i. (n i, (p i, v i))

pub first_one : (r : Row) (x y : ℕ × (ℕ × List ℕ)) → FitsFirst x → FitsFirst y → IsFirstRow r x → IsFirstRow r y → x ≡ y
first_one r x y fx fy a b = let n = int_one x.0 y.0 _ a.0 b.0 in let p = fx.1 ∙ sym fy.1 in let v = bytes_one x.1.1 y.1.1 _ a.1 b.1 in λ i. (n i, (p i, v i))

pub slot_one : (r : Row) (x y : List ℕ × (ℕ × List ℕ)) → FitsSlot x → FitsSlot y → IsSlotRow r x → IsSlotRow r y → x ≡ y
slot_one r x y fx fy a b = let s = text_one x.0 y.0 _ a.0 b.0 in let n = int_one x.1.0 y.1.0 _ a.1 b.1 in let v = bytes_one x.1.1 y.1.1 _ a.2 b.2 in λ i. (s i, (n i, v i))

pub shelf_one : (r : Row) (x y : (List ℕ × ℕ) × List ℕ) → FitsShelf x → FitsShelf y → IsShelfRow r x → IsShelfRow r y → x ≡ y
shelf_one r x y fx fy a b = let s = text_one x.0.0 y.0.0 _ a.0 b.0 in let n = int_one x.0.1 y.0.1 _ a.1 b.1 in let v = bytes_one x.1 y.1 _ a.2 b.2 in λ i. ((s i, n i), v i)

ok_one : (d e : List ℕ) → decode_of (encode_lower d) ≡ Rattle.std.proofs.Common.Ok d → decode_of (encode_lower e) ≡ Rattle.std.proofs.Common.Ok e → encode_lower d ≡ encode_lower e → d ≡ e
ok_one d e a b same = let f = sym a ∙ ap decode_of same ∙ b in cc

pub digest_one : (d e : List ℕ) → IsDigest d → IsDigest e → encode_lower d ≡ encode_lower e → d ≡ e
digest_one d e is_d is_e same = ok_one d e (decode_of-encode_lower d (bytes_at d is_d.1)) (decode_of-encode_lower e (bytes_at e is_e.1)) same

pub blob_one : (r : Row) (x y : List ℕ × List ℕ) → FitsBlob x → FitsBlob y → IsBlobRow r x → IsBlobRow r y → x ≡ y
blob_one r x y fx fy a b = let d = digest_one x.0 y.0 fx fy (text_one _ _ _ a.0 b.0) in let v = bytes_one x.1 y.1 _ a.1 b.1 in λ i. (d i, v i)

-- ---- the order of the rows is that of the items

root_ordered : (stored rows : List Row) → AreLoaded root2_cells (rises ∷ []) stored rows → AreOrdered nat_cmp IsRootRow FitsRoot rows
root_ordered stored rows l before r s rest x y e rx sy fx fy less = true≢false (sym (after_less _ _ (int_less (column s 0) (column r 0) y.0 x.0 sy.0 rx.0 ∙ less)) ∙ l.sorted before r s rest e)

first_ordered : (stored rows : List Row) → AreLoaded root_cells (rises ∷ []) stored rows → AreOrdered nat_cmp IsFirstRow FitsFirst rows
first_ordered stored rows l before r s rest x y e rx sy fx fy less = true≢false (sym (after_less _ _ (int_less (column s 0) (column r 0) y.0 x.0 sy.0 rx.0 ∙ less)) ∙ l.sorted before r s rest e)

shelf_ordered : (stored rows : List Row) → AreLoaded (with_rowid shelf_cells) (rises ∷ rises ∷ []) stored rows → AreOrdered row_cmp IsShelfRow FitsShelf rows
shelf_ordered stored rows l before r s rest x y e rx sy fx fy less =
    let one = text_less (column s 0) (column r 0) y.0.0 x.0.0 sy.0 rx.0 in
    let two = int_less (column s 1) (column r 1) y.0.1 x.0.1 sy.1 rx.1 in
    let all : ordering_then (value_cmp (column s 0) (column r 0)) (value_cmp (column s 1) (column r 1)) ≡ Less = subst₂ (λ o p. ordering_then o p ≡ Less) (sym one) (sym two) less in
    true≢false (sym (pair_less (value_cmp (column s 0) (column r 0)) (value_cmp (column s 1) (column r 1)) Equal all) ∙ l.sorted before r s rest e)

blob_ordered : (stored rows : List Row) → AreLoaded (with_rowid blob_cells) (rises ∷ []) stored rows → AreOrdered (slice_cmp nat_cmp) IsLengthRow FitsLength rows
blob_ordered stored rows l before r s rest x y e rx sy fx fy less =
    true≢false (sym (after_less _ _ (text_less (column s 0) (column r 0) _ _ sy.1.0 rx.1.0 ∙ digits_less y.0 x.0 fy.1 fx.1 less)) ∙ l.sorted before r s rest e)

pub all_sorted : (trees : Trees) (a : QueriedRows) → AreQueried trees a → AreSorted a
all_sorted trees a is = record { root = first_ordered _ _ is.root; shelf = shelf_ordered _ _ is.shelf; blob = blob_ordered _ _ is.blob; root2 = root_ordered _ _ is.root2 }

-- ---- the items are what is held

pub items_rows : (a b : Option (ℕ × List ℕ)) → map (λ (x : List ℕ × (ℕ × List ℕ)). slot_row x.0 x.1) (current_items a b) ≡ current_rows a b
items_rows None None = refl
items_rows None (Some y) = refl
items_rows (Some x) None = refl
items_rows (Some x) (Some y) = refl

one_cells : (n : ℕ) (s : Row) → IsOf n (version_cells s) → version_cells s ≡ version_row n
one_cells n s is = ap (λ v. v ∷ []) is

version_rows : (n : ℕ) (stored rows : List Row) → AreLoaded version_cells [] stored rows → ((r : Row) → Has rows r → IsOf n r) → rows ≢ [] → IsNumbered stored → AreRows version_cells stored (version_row n ∷ [])
version_rows n stored rows l ones some ids = record {
  keyed = ids.keyed;
  numbered = ids.numbered;
  sound = λ s h. inl (one_cells n s (ones (version_cells s) (l.each s h)));
  complete = λ c h. go rows some l.from ones c h;
}
  where
    go : (rs : List Row) → rs ≢ [] → ((x : Row) → Has rs x → (r : Row) × Has stored r × (x ≡ version_cells r)) → ((r : Row) → Has rs r → IsOf n r) → (c : Row) → Has (version_row n ∷ []) c → (x : Row) × Has stored x × (version_cells x ≡ c)
    go [] some from ones c h = absurd (some refl)
    go (r ∷ rs) some from ones c (inl is) =
        let s = from r (inl refl) in
        (s.0, s.1, one_cells n s.0 (subst (IsOf n) s.2 (ones r (inl refl))) ∙ sym is)
    go (r ∷ rs) some from ones c (inr none) = absurd none

-- the tables of which the two schemas hold the same
held_current : (trees : Trees) (a : QueriedRows) (t : Contents) → AllComeOnce a → AreQueried trees a → AreRead IsSlotRow FitsSlot a.current (current_items t.timestamp t.snapshot) → AreRows current_cells (trees 1) (current_rows t.timestamp t.snapshot)
held_current trees a t n is read = subst (AreRows current_cells (trees 1)) (items_rows t.timestamp t.snapshot)
    (read_all IsSlotRow FitsSlot (λ x. slot_row x.0 x.1) (with_rowid current_cells) current_cells _ _ _ is.current slot_are _ read (numbered_by (with_rowid current_cells) 3 (λ r. refl) _ _ is.current.once n.current))

held_shelf : (trees : Trees) (a : QueriedRows) (t : Contents) → AllComeOnce a → AreQueried trees a → AreRead IsShelfRow FitsShelf a.shelf t.shelf → AreRows shelf_cells (trees 3) (map shelf_row t.shelf)
held_shelf trees a t n is read =
    read_all IsShelfRow FitsShelf shelf_row (with_rowid shelf_cells) shelf_cells _ _ _ is.shelf shelf_are t.shelf read (numbered_by (with_rowid shelf_cells) 3 (λ r. refl) _ _ is.shelf.once n.shelf)

held_blob : (trees : Trees) (a : QueriedRows) (t : Contents) → AllComeOnce a → AreQueried trees a → AreRead IsBlobRow FitsBlob a.blob t.blobs → AreRows blob_cells (trees 5) (map blob_row t.blobs)
held_blob trees a t n is read =
    read_all IsBlobRow FitsBlob blob_row (with_rowid blob_cells) blob_cells _ _ _ is.blob blob_are t.blobs read (numbered_by (with_rowid blob_cells) 2 (λ r. refl) _ _ is.blob.once n.blob)

-- a table whose answer has no row is empty
empty_held : (shown : Row → Row) (keys : _) (stored rows : List Row) → AreLoaded shown keys stored rows → rows ≡ [] → AreRows shown stored []
empty_held shown keys stored rows l none = subst (λ r. AreRows shown r []) (sym (none_answered keys stored rows l none)) (no_stored shown)

pub holds_as : (is_first : Bool) (trees : Trees) (a : QueriedRows) (t : Contents) → AllComeOnce a → AreQueried trees a → AreContents is_first a t → Tell is_first a.version → a.version ≢ [] → HoldsAs is_first trees t
holds_as true trees a t n is items ones some = record {
  profiles = all_from (λ (r : ℕ × (ℕ × List ℕ)). r.1.0 ≡ 1) t.roots (λ x h. (items.root.0.read.fit x h).1);
  root = read_all IsFirstRow FitsFirst first_row root_cells root_cells _ _ _ is.root first_are t.roots items.root.0.read (numbered_by root_cells 0 (λ r. refl) _ _ is.root.once n.root);
  current = held_current trees a t n is items.current;
  shelf = held_shelf trees a t n is items.shelf;
  blob = held_blob trees a t n is items.blob;
  version = version_rows 1 _ _ is.version ones some (numbered_by version_cells 0 (λ r. refl) _ _ is.version.once n.version);
  root2 = empty_held root2_cells _ _ _ is.root2 items.root.1;
}
holds_as false trees a t n is items ones some = record {
  root = empty_held root_cells _ _ _ is.root items.root.1;
  current = held_current trees a t n is items.current;
  shelf = held_shelf trees a t n is items.shelf;
  blob = held_blob trees a t n is items.blob;
  version = version_rows 2 _ _ is.version ones some (numbered_by version_cells 0 (λ r. refl) _ _ is.version.once n.version);
  root2 = read_all IsRootRow FitsRoot root_row root2_cells root2_cells _ _ _ is.root2 root_are t.roots items.root.0.read (numbered_by root2_cells 0 (λ r. refl) _ _ is.root2.once n.root2);
}

pub bare_items : (trees : Trees) (a : QueriedRows) (t : Contents) → AreQueried trees a → AreContents false a t → a.version ≡ [] → t ≡ no_rows → AreBare trees
bare_items trees a t is items none bare =
    let root2 = none_stored _ _ _ _ is.root2 items.root.0.read (ap (λ (u : Contents). u.roots) bare) in
    let current = none_stored _ _ _ _ is.current items.current (ap (λ (u : Contents). current_items u.timestamp u.snapshot) bare) in
    let shelf = none_stored _ _ _ _ is.shelf items.shelf (ap (λ (u : Contents). u.shelf) bare) in
    let blob = none_stored _ _ _ _ is.blob items.blob (ap (λ (u : Contents). u.blobs) bare) in
    (none_answered _ _ _ is.root items.root.1, (current, (shelf, (blob, (none_answered _ _ _ is.version none, (root2, tt))))))

-- ---- what is damaged stands for nothing

pub apart_slots : codes "timestamp" ≡ codes "snapshot" → ⊥
apart_slots e = let f = e in cc

current_keyed : (a b : Option (ℕ × List ℕ)) → AreKeyed (current_items a b)
current_keyed None None x y in_x in_y same = absurd in_x
current_keyed (Some v) None x y (inl p) (inl q) same = p ∙ sym q
current_keyed (Some v) None x y (inr none) in_y same = absurd none
current_keyed (Some v) None x y (inl p) (inr none) same = absurd none
current_keyed None (Some w) x y (inl p) (inl q) same = p ∙ sym q
current_keyed None (Some w) x y (inr none) in_y same = absurd none
current_keyed None (Some w) x y (inl p) (inr none) same = absurd none
current_keyed (Some v) (Some w) x y (inl p) (inl q) same = p ∙ sym q
current_keyed (Some v) (Some w) x y (inr (inl p)) (inr (inl q)) same = p ∙ sym q
current_keyed (Some v) (Some w) x y (inl p) (inr (inl q)) same = absurd (apart_slots (ap (λ (z : List ℕ × (ℕ × List ℕ)). z.0) (sym p) ∙ same ∙ ap (λ (z : List ℕ × (ℕ × List ℕ)). z.0) q))
current_keyed (Some v) (Some w) x y (inr (inl p)) (inl q) same = absurd (apart_slots (sym (ap (λ (z : List ℕ × (ℕ × List ℕ)). z.0) (sym p) ∙ same ∙ ap (λ (z : List ℕ × (ℕ × List ℕ)). z.0) q)))
current_keyed (Some v) (Some w) x y (inr (inr none)) in_y same = absurd none
current_keyed (Some v) (Some w) x y (inl p) (inr (inr none)) same = absurd none
current_keyed (Some v) (Some w) x y (inr (inl p)) (inr (inr none)) same = absurd none

pub current_fits : (a b : Option (ℕ × List ℕ)) → ((r : _) → a ≡ Some r → r.0 < 2 ^ 32) → ((r : _) → b ≡ Some r → r.0 < 2 ^ 32) → (x : List ℕ × (ℕ × List ℕ)) → Has (current_items a b) x → FitsSlot x
current_fits None None fa fb x h = absurd h
current_fits (Some v) None fa fb x (inl is) = subst FitsSlot (sym is) (inl refl, fa v refl)
current_fits (Some v) None fa fb x (inr none) = absurd none
current_fits None (Some w) fa fb x (inl is) = subst FitsSlot (sym is) (inr refl, fb w refl)
current_fits None (Some w) fa fb x (inr none) = absurd none
current_fits (Some v) (Some w) fa fb x (inl is) = subst FitsSlot (sym is) (inl refl, fa v refl)
current_fits (Some v) (Some w) fa fb x (inr (inl is)) = subst FitsSlot (sym is) (inr refl, fb w refl)
current_fits (Some v) (Some w) fa fb x (inr (inr none)) = absurd none

-- all rows of `schema` are those of this version
only : (n : ℕ) (stored : List Row) → AreRows version_cells stored (version_row n ∷ []) → (rows : List Row) → AreLoaded version_cells [] stored rows → (r : Row) → Has rows r → IsOf n r
only n stored are rows l r h =
    let s = l.from r h in
    subst (IsOf n) (sym s.2) (alone (are.sound s.0 s.1))
  where
    alone : {c : Row} → Has (version_row n ∷ []) c → IsOf n c
    alone (inl e) = subst (IsOf n) (sym e) refl
    alone (inr none) = absurd none

-- and there is one
one_told : (n : ℕ) (stored : List Row) → AreRows version_cells stored (version_row n ∷ []) → (rows : List Row) → AreLoaded version_cells [] stored rows → (r : Row) × Has rows r × IsOf n r
one_told n stored are rows l =
    let s = are.complete (version_row n) (inl refl) in
    (version_cells s.0, l.each s.0 s.1, ap (λ (c : Row). column c 0) s.2)

not_both : (r : Row) → IsOf 1 r → IsOf 2 r → ⊥
not_both r one two = let e : Int (pos 1) ≡ Int (pos 2) = sym one ∙ two in cc

-- a table with no row answers none
answers_none : {shown : Row → Row} (keys : _) (stored rows : List Row) → AreLoaded shown keys stored rows → stored ≡ [] → (r : Row) → Has rows r → ⊥
answers_none keys stored rows l none r h = let s = l.from r h in subst (λ xs. Has xs s.0) none s.1

damaged_mixed : (trees : Trees) (a : QueriedRows) → AreQueried trees a → (r s : Row) → Has a.version r → (IsOf 1 r → ⊥) → Has a.version s → (IsOf 2 s → ⊥) → (t : Contents) → StandsFor trees t → ⊥
damaged_mixed trees a is r s in_r not_one in_s not_two t (inl holds) = not_two (only 2 _ holds.version _ is.version s in_s)
damaged_mixed trees a is r s in_r not_one in_s not_two t (inr (inl holds)) = not_one (only 1 _ holds.version _ is.version r in_r)
damaged_mixed trees a is r s in_r not_one in_s not_two t (inr (inr bare)) = answers_none _ _ _ is.version bare.0.1.1.1.1.0 r in_r

damaged_crossed : (trees : Trees) (a : QueriedRows) → AreQueried trees a → (is_first : Bool) (r : Row) → Tell is_first a.version → Has (if is_first then a.root2 else a.root) r → (t : Contents) → StandsFor trees t → ⊥
damaged_crossed trees a is true r ones h t (inl holds) = let s = one_told 2 _ holds.version _ is.version in not_both s.0 (ones s.0 s.1) s.2
damaged_crossed trees a is true r ones h t (inr (inl holds)) = answers_none _ _ _ is.root2 (none_held _ holds.root2) r h
damaged_crossed trees a is true r ones h t (inr (inr bare)) = answers_none _ _ _ is.root2 bare.0.1.1.1.1.1.0 r h
damaged_crossed trees a is false r twos h t (inl holds) = answers_none _ _ _ is.root (none_held _ holds.root) r h
damaged_crossed trees a is false r twos h t (inr (inl holds)) = let s = one_told 1 _ holds.version _ is.version in not_both s.0 s.2 (twos s.0 s.1)
damaged_crossed trees a is false r twos h t (inr (inr bare)) = answers_none _ _ _ is.root bare.0.0 r h

-- the tables of which the two schemas hold the same
damaged_current : (trees : Trees) (a : QueriedRows) → AreQueried trees a → AreSpoiled IsSlotRow FitsSlot a.current → (t : Contents) → IsFit t → AreRows current_cells (trees 1) (current_rows t.timestamp t.snapshot) → ⊥
damaged_current trees a is bad t fit held =
    no_items IsSlotRow FitsSlot (λ x. slot_row x.0 x.1) (with_rowid current_cells) current_cells _ _ _ is.current slot_reads slot_one bad (current_items t.timestamp t.snapshot) (current_fits t.timestamp t.snapshot fit.timestamp fit.snapshot) (current_keyed t.timestamp t.snapshot)
    (subst (AreRows current_cells (trees 1)) (sym (items_rows t.timestamp t.snapshot)) held)

damaged_shelf : (trees : Trees) (a : QueriedRows) → AreQueried trees a → AreSpoiled IsShelfRow FitsShelf a.shelf → (t : Contents) → IsFit t → AreRows shelf_cells (trees 3) (map shelf_row t.shelf) → ⊥
damaged_shelf trees a is bad t fit held = no_items IsShelfRow FitsShelf shelf_row (with_rowid shelf_cells) shelf_cells _ _ _ is.shelf shelf_reads shelf_one bad t.shelf (λ x h. all_has FitsShelf t.shelf x fit.shelf h) fit.one_row held

damaged_blob : (trees : Trees) (a : QueriedRows) → AreQueried trees a → AreSpoiled IsLengthRow FitsLength a.blob → (t : Contents) → IsFit t → HaveDigests t → AreRows blob_cells (trees 5) (map blob_row t.blobs) → ⊥
damaged_blob trees a is bad t fit right held =
    no_items IsBlobRow FitsFile blob_row (with_rowid blob_cells) blob_cells _ _ _ is.blob blob_reads (λ r x y fx fy. blob_one r x y fx.0 fy.0) (spoiled_files a.blob bad) t.blobs
    (λ x h. (all_has FitsBlob t.blobs x fit.blobs h, all_has (λ y. sha256 y.1 ≡ y.0) t.blobs x right h)) fit.one_blob held

-- a root of schema 1
pub first_fits : (t : Contents) → IsFit t → AllByRecursion (λ r. r.1.0 ≡ 1) t.roots → (x : ℕ × (ℕ × List ℕ)) → Has t.roots x → FitsFirst x
first_fits t fit ones x h = ((all_has FitsRoot t.roots x fit.roots h).0, all_has (λ (r : ℕ × (ℕ × List ℕ)). r.1.0 ≡ 1) t.roots x ones h)

pub damaged_items : (trees : Trees) (a : QueriedRows) → AreQueried trees a → AreDamaged a → (t : Contents) → IsFit t → HaveDigests t → StandsFor trees t → ⊥
damaged_items trees a is (root bad) t fit right (inl holds) = not_bare _ IsFirstRow FitsFirst _ _ is.root bad (none_held _ holds.root)
damaged_items trees a is (root bad) t fit right (inr (inl holds)) = no_items IsFirstRow FitsFirst first_row root_cells root_cells _ _ _ is.root first_reads first_one bad t.roots (first_fits t fit holds.profiles) fit.one_root holds.root
damaged_items trees a is (root bad) t fit right (inr (inr bare)) = not_bare _ IsFirstRow FitsFirst _ _ is.root bad bare.0.0
damaged_items trees a is (root2 bad) t fit right (inl holds) = no_items IsRootRow FitsRoot root_row root2_cells root2_cells _ _ _ is.root2 root_reads root_one bad t.roots (λ x h. all_has FitsRoot t.roots x fit.roots h) fit.one_root holds.root2
damaged_items trees a is (root2 bad) t fit right (inr (inl holds)) = not_bare _ IsRootRow FitsRoot _ _ is.root2 bad (none_held _ holds.root2)
damaged_items trees a is (root2 bad) t fit right (inr (inr bare)) = not_bare _ IsRootRow FitsRoot _ _ is.root2 bad bare.0.1.1.1.1.1.0
damaged_items trees a is (current bad) t fit right (inl holds) = damaged_current trees a is bad t fit holds.current
damaged_items trees a is (current bad) t fit right (inr (inl holds)) = damaged_current trees a is bad t fit holds.current
damaged_items trees a is (current bad) t fit right (inr (inr bare)) = not_bare _ IsSlotRow FitsSlot _ _ is.current bad bare.0.1.0
damaged_items trees a is (shelf bad) t fit right (inl holds) = damaged_shelf trees a is bad t fit holds.shelf
damaged_items trees a is (shelf bad) t fit right (inr (inl holds)) = damaged_shelf trees a is bad t fit holds.shelf
damaged_items trees a is (shelf bad) t fit right (inr (inr bare)) = not_bare _ IsShelfRow FitsShelf _ _ is.shelf bad bare.0.1.1.0
damaged_items trees a is (blob bad) t fit right (inl holds) = damaged_blob trees a is bad t fit right holds.blob
damaged_items trees a is (blob bad) t fit right (inr (inl holds)) = damaged_blob trees a is bad t fit right holds.blob
damaged_items trees a is (blob bad) t fit right (inr (inr bare)) = not_bare _ IsLengthRow FitsLength _ _ is.blob bad bare.0.1.1.1.0
damaged_items trees a is (mixed r s in_r not_one in_s not_two) t fit right stands = damaged_mixed trees a is r s in_r not_one in_s not_two t stands
damaged_items trees a is (crossed is_first r told h) t fit right stands = damaged_crossed trees a is is_first r told h t stands

no_slots : (a b : Option (ℕ × List ℕ)) → current_items a b ≡ [] → (a ≡ None) × (b ≡ None)
no_slots None None e = (refl, refl)
no_slots (Some v) b e = absurd (let f = e in cc)
no_slots None (Some w) e = absurd (let f = e in cc)

pub late_contents : (is_first : Bool) (a : QueriedRows) (t : Contents) → is_first ≡ false → AreContents is_first a t → AreContents false a t
late_contents is_first a t is are = subst (λ b. AreContents b a t) is are

pub unbegun : (trees : Trees) (a : QueriedRows) (t : Contents) → AreQueried trees a → AreContents false a t → a.version ≡ [] → IsUnbegun trees t
unbegun trees a t is items none = record { bare = bare_items trees a t is items none; other = other }
  where
    untold : (n : ℕ) → AreRows version_cells (trees 7) (version_row n ∷ []) → ⊥
    untold n are = let s = one_told n _ are _ is.version in subst (λ xs. Has xs s.0) none s.1

    other : t ≢ no_rows → (u : Contents) → StandsFor trees u → ⊥
    other not u (inl holds) = untold 2 holds.version
    other not u (inr (inl holds)) = untold 1 holds.version
    other not u (inr (inr bare)) =
        let roots = none_read _ _ _ _ is.root2 items.root.0.read bare.0.1.1.1.1.1.0 in
        let slots = no_slots t.timestamp t.snapshot (none_read _ _ _ _ is.current items.current bare.0.1.0) in
        let rows = none_read _ _ _ _ is.shelf items.shelf bare.0.1.1.0 in
        let blobs = none_read _ _ _ _ is.blob items.blob bare.0.1.1.1.0 in
        not (λ i. record { roots = roots i; timestamp = slots.0 i; snapshot = slots.1 i; shelf = rows i; blobs = blobs i })

-- ---- what was read fits

roots_rise : (is_first : Bool) (a : QueriedRows) (roots : List (ℕ × (ℕ × List ℕ))) → AreRoots is_first a roots → IsStrictlySortedBy nat_cmp (map (λ r. r.0) roots)
roots_rise true a roots are = are.0.rising
roots_rise false a roots are = are.0.rising

roots_fit : (is_first : Bool) (a : QueriedRows) (roots : List (ℕ × (ℕ × List ℕ))) → AreRoots is_first a roots → (x : ℕ × (ℕ × List ℕ)) → Has roots x → FitsRoot x
roots_fit true a roots are x h = let fits = are.0.read.fit x h in (fits.0, subst (λ n. n < 2 ^ 32) (sym fits.1) (omega arith))
roots_fit false a roots are x h = are.0.read.fit x h

module _ (is_first : Bool) (a : QueriedRows) (m : MetadataRows) (lengths : List (List ℕ × ℕ)) (items : AreItems is_first a m lengths) where
  -- the rows that were read
  abbrev pub rows_read : Contents
  rows_read = contents_with m (files_of a.blob lengths items.blob.read.from)

  rows_fit : IsFit rows_read
  rows_fit =
      let up = subst (IsStrictlySortedBy (slice_cmp nat_cmp)) (sym (keys_are a.blob lengths items.blob.read.from)) items.blob.rising in
      record {
        roots = all_from FitsRoot rows_read.roots (roots_fit is_first a rows_read.roots items.root);
        one_root = rising_keyed nat_cmp nat_cmp_total rows_read.roots (roots_rise is_first a rows_read.roots items.root);
        timestamp = λ r is. (items.current.fit (codes "timestamp", r) (has_timestamp rows_read.timestamp rows_read.snapshot r is)).1;
        snapshot = λ r is. (items.current.fit (codes "snapshot", r) (has_snapshot rows_read.timestamp rows_read.snapshot r is)).1;
        shelf = all_from FitsShelf rows_read.shelf items.shelf.read.fit;
        one_row = rising_keyed row_cmp row_cmp_total rows_read.shelf items.shelf.rising;
        blobs = all_from FitsBlob rows_read.blobs (files_fit a.blob lengths items.blob.read.from items.blob.read.fit);
        one_blob = rising_keyed (slice_cmp nat_cmp) nat_list_cmp_total rows_read.blobs up;
      }

  rows_rise : AreRising rows_read
  rows_rise = record {
    roots = roots_rise is_first a rows_read.roots items.root;
    shelf = items.shelf.rising;
    blobs = subst (IsStrictlySortedBy (slice_cmp nat_cmp)) (sym (keys_are a.blob lengths items.blob.read.from)) items.blob.rising;
  }

  pub items_read : IsReadAs m lengths rows_read
  items_read = record {
    rows = refl;
    files = sym (lengths_are a.blob lengths items.blob.read.from);
    digests = digests_are a.blob lengths items.blob.read.from;
    fit = rows_fit;
    rising = rows_rise;
  }

  pub items_are : AreSingle a.blob → AreContents is_first a rows_read
  items_are single = record { root = items.root; current = items.current; shelf = items.shelf.read; blob = files_read a.blob lengths items.blob.read single }

-- ---- no rows

none_fit : IsFit no_rows
none_fit = record {
  roots = tt;
  one_root = λ x y none. absurd none;
  timestamp = λ r e. absurd (let f = e in cc);
  snapshot = λ r e. absurd (let f = e in cc);
  shelf = tt;
  one_row = λ x y none. absurd none;
  blobs = tt;
  one_blob = λ x y none. absurd none;
}

none_rise : AreRising no_rows
unfolding IsStrictlySortedBy
none_rise = record { roots = tt; shelf = tt; blobs = tt }

pub nothing_read : (m : MetadataRows) (lengths : List (List ℕ × ℕ)) → contents_with m [] ≡ no_rows → lengths ≡ [] → IsReadAs m lengths no_rows
nothing_read m lengths none empty = record { rows = sym none; files = empty; digests = tt; fit = none_fit; rising = none_rise }

unmapped : {X Y : Type 0} (f : X → Y) (xs : List X) → map f xs ≡ [] → xs ≡ []
unmapped f [] e = refl
unmapped f (x ∷ xs) e = absurd (let g = e in cc)

pub read_nothing : (m : MetadataRows) (lengths : List (List ℕ × ℕ)) (t : Contents) → IsReadAs m lengths t → contents_with m [] ≡ no_rows → lengths ≡ [] → t ≡ no_rows
read_nothing m lengths t is none empty = is.rows ∙ ap (contents_with m) (unmapped _ t.blobs (sym is.files ∙ empty)) ∙ none

pub read_some : (m : MetadataRows) (lengths : List (List ℕ × ℕ)) (t : Contents) → IsReadAs m lengths t → t ≡ no_rows → (contents_with m t.blobs ≡ no_rows) × (lengths ≡ [])
read_some m lengths t is none = (sym is.rows ∙ none, is.files ∙ ap (λ (u : Contents). lengths_of u.blobs) none)

-- ---- the roots of the one table, where the other has none

gathered_none : {K V : Type 0} {cmp : K → K → Ordering} {Reads : Row → K × V → Type 0} {Fits : K × V → Type 0} (rows : List Row) (items : List (K × V)) → AreGathered cmp Reads Fits rows items → items ≡ [] → rows ≡ []
gathered_none rows items g none = no_member rows (λ r h. let it = g.read.each r h in subst (λ xs. Has xs it.0) none it.1)

gathered_some : {K V : Type 0} {cmp : K → K → Ordering} {Reads : Row → K × V → Type 0} {Fits : K × V → Type 0} (rows : List Row) (items : List (K × V)) → AreGathered cmp Reads Fits rows items → items ≢ [] → (r : Row) × Has rows r
gathered_some rows [] g some = absurd (some refl)
gathered_some rows (x ∷ items) g some = let it = g.read.from x (inl refl) in (it.0, it.1)

abbrev Roots : Type 0
Roots = Vec (ℕ × ℕ × Vec ℕ Global) Global

pub one_read : (is_first : Bool) (a : QueriedRows) (first second v : Roots) → AreGathered nat_cmp IsFirstRow FitsFirst a.root (map root_shows first.items) → AreGathered nat_cmp IsRootRow FitsRoot a.root2 (map root_shows second.items)
    → v ≡ (if is_first then first else second) → (if is_first then second else first).items ≡ [] → AreRoots is_first a (map root_shows v.items)
one_read true a first second v f s is none = (subst (λ (w : Roots). AreGathered nat_cmp IsFirstRow FitsFirst a.root (map root_shows w.items)) (sym is) f, gathered_none a.root2 _ s (ap (map root_shows) none))
one_read false a first second v f s is none = (subst (λ (w : Roots). AreGathered nat_cmp IsRootRow FitsRoot a.root2 (map root_shows w.items)) (sym is) s, gathered_none a.root _ f (ap (map root_shows) none))

pub crossed_by : (is_first : Bool) (a : QueriedRows) (first second : Roots) → AreGathered nat_cmp IsFirstRow FitsFirst a.root (map root_shows first.items) → AreGathered nat_cmp IsRootRow FitsRoot a.root2 (map root_shows second.items)
    → Tell is_first a.version → (if is_first then second else first).items ≢ [] → AreDamaged a
crossed_by true a first second f s told some = let it = gathered_some a.root2 (map root_shows second.items) s (λ e. some (unmapped root_shows second.items e)) in crossed true it.0 told it.1
crossed_by false a first second f s told some = let it = gathered_some a.root (map root_shows first.items) f (λ e. some (unmapped root_shows first.items e)) in crossed false it.0 told it.1

-- what the rows of `schema` tell
pub told_from : (rows : List Row) (begun first second is_first : Bool) → AreVersions rows begun first second → (first ≡ true) ⊎ (second ≡ true) → ((begun ≡ true) × (is_first ≡ first)) ⊎ ((begun ≡ false) × (is_first ≡ false))
    → Tell is_first rows
told_from rows begun first second is_first v either (inr b) = λ r h. absurd (subst (λ rs. Has rs r) (v.none b.0) h)
told_from rows begun true second is_first v either (inl b) = subst (λ f. Tell f rows) (sym b.1) (v.first.each refl)
told_from rows begun false second is_first v (inl e) (inl b) = absurd (let f = e in cc)
told_from rows begun false second is_first v (inr e) (inl b) = subst (λ f. Tell f rows) (sym b.1) (v.second.each e)

-- an item of `blob` is what it shows
pub as_shown : (xs : List (List ℕ × ℕ)) → map length_shows xs ≡ xs
as_shown [] = refl
as_shown (x ∷ xs) = ap (λ ys. x ∷ ys) (as_shown xs)
