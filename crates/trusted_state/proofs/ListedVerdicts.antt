-- What is known of the rows at listed versions.
use Rattle.std.proofs.Common.{◌≡◌, ℕ, Bool, true, false, cond, ◌||◌, List, [], ◌∷◌, filter, Option, Some, None, option_map, map, unwrap_or, ◌≢◌, refl, sym, ◌∙◌, subst, bytes_eq, nat_eq}
use Rattle.std.specs.Prelude.{IsSome, IfSome}
use Rattle.std.proofs.lemmas.Bool.{eq-eqb}
use Rattle.std.proofs.lemmas.Slice.Eq.{bytes_eq-Decides}
use Rattle.std.specs.List.{AllByRecursion, list_any}
use Rattle.keys_roles.specs.Plain.{look_up}
use Rattle.keys_roles.specs.Rules.{AreDistinct}
use Rattle.keys_roles.specs.Verdicts.{Pair}
use Rattle.document_parts.specs.Documents.{MetaFile, Root, Snapshot, Targets}
use Rattle.metadata.specs.File.{Name, File}
use Rattle.delegations.specs.Delegation.{Edge}
use Rattle.delegations.specs.Rows.{Place, Rows, row_at, same_place}
use Rattle.delegations.specs.Search.{Shelf, doc, shelf_of, top_edge}
use Rattle.delegations.specs.Verdicts.{AreFew, AreListed, AreOfRows, AreTrue, IsComplete, IsEdge, IsWanted, Table, onward, top}
use Rattle.delegations.proofs.KeyOrder.{place_one}
use Rattle.trust_rules.specs.Offers.{is_listed, kept_rows}
use Rattle.trusted_state.specs.Knowing.{IsKnown}
use Rattle.trust_rules.specs.State.{Trusted}
use Rattle.trust_rules.specs.steps.Pruning.{AreAtListed}
use Rattle.trust_rules.proofs.ListedSearches.{AreSame, doc_same, same_back, value_gone, value_kept}
use Rattle.trust_rules.proofs.PrunedStates.{kept_same}

-- ---- a role that is listed at a version

behind : {b : Bool} (a : Bool) → b ≡ true → (a || b) ≡ true
behind true h = refl
behind false h = h

pub named_at : (ms : List (Name × MetaFile)) (role : Name) (v : ℕ) → option_map (λ m. m.version) (look_up ms role) ≡ Some v
    → list_any (λ m. same_place (m.0, m.1.version) (role, v)) ms ≡ true
named_at [] role v is = absurd (cc)
named_at (m ∷ ms) role v is = at (bytes_eq m.0 role) refl (named_at ms role v) is
  where
    at : (t : Bool) → bytes_eq m.0 role ≡ t
        → (option_map (λ (e : MetaFile). e.version) (look_up ms role) ≡ Some v → list_any (λ m. same_place (m.0, m.1.version) (role, v)) ms ≡ true) → option_map (λ (e : MetaFile). e.version) (cond t (Some m.1) (look_up ms role)) ≡ Some v
        → list_any (λ m. same_place (m.0, m.1.version) (role, v)) (m ∷ ms) ≡ true
    at true e later k =
        let one : m.1.version ≡ v = cc in
        rw (e, eq-eqb m.1.version v one) refl
    at false e later k = behind (same_place (m.0, m.1.version) (role, v)) (later k)

-- where no name stands twice, looking the role up tells
none_named : (ms : List (Name × MetaFile)) (name role : Name) (v : ℕ) → role ≡ name → AllByRecursion (λ y. name ≢ y) (map (λ e. e.0) ms)
    → list_any (λ m. same_place (m.0, m.1.version) (role, v)) ms ≡ false
none_named [] name role v is apart = refl
none_named (m ∷ ms) name role v is apart = at (bytes_eq m.0 role) refl (none_named ms name role v is apart.1)
  where
    at : (t : Bool) → bytes_eq m.0 role ≡ t → list_any (λ m. same_place (m.0, m.1.version) (role, v)) ms ≡ false
        → list_any (λ m. same_place (m.0, m.1.version) (role, v)) (m ∷ ms) ≡ false
    at true e later = absurd (apart.0 (sym is ∙ sym ((bytes_eq-Decides m.0 role).0 e)))
    at false e later = rw e later

pub listed_by : (ms : List (Name × MetaFile)) (role : Name) (v : ℕ) → AreDistinct (map (λ e. e.0) ms)
    → list_any (λ m. same_place (m.0, m.1.version) (role, v)) ms ≡ unwrap_or (option_map (λ e. nat_eq e.version v) (look_up ms role)) false
listed_by [] role v apart = refl
listed_by (m ∷ ms) role v apart = at (bytes_eq m.0 role) refl (nat_eq m.1.version v) refl (listed_by ms role v apart.1)
  where
    at : (t : Bool) → bytes_eq m.0 role ≡ t → (n : Bool) → nat_eq m.1.version v ≡ n
        → list_any (λ m. same_place (m.0, m.1.version) (role, v)) ms ≡ unwrap_or (option_map (λ e. nat_eq e.version v) (look_up ms role)) false
        → list_any (λ m. same_place (m.0, m.1.version) (role, v)) (m ∷ ms) ≡ unwrap_or (option_map (λ e. nat_eq e.version v) (look_up (m ∷ ms) role)) false
    at true e true f later = rw (e, f) refl
    at true e false f later = rw (e, f) (none_named ms m.0 role v (sym ((bytes_eq-Decides m.0 role).0 e)) apart.0)
    at false e n f later = rw e later

-- ---- the table

true_still : (p : Place → Bool) (rows : Rows) (t : Table) → AreTrue rows t → AreTrue (filter (λ row. p row.0) rows) t
true_still p rows [] h = tt
true_still p rows (row ∷ t) h = (λ file is. h.0 file (still (p row.0) refl file is), true_still p rows t h.1)
  where
    still : (b : Bool) → p row.0 ≡ b → (file : File Targets) → row_at (filter (λ r. p r.0) rows) row.0.0 row.0.1 ≡ Some file → row_at rows row.0.0 row.0.1 ≡ Some file
    still true e file is = sym (value_kept same_place place_one p rows row.0 e) ∙ is
    still false e file is = absurd (none (sym (value_gone same_place place_one p rows row.0 e) ∙ is))
      where
        none : None ≡ Some file → ⊥
        none k = cc

rows_still : (snap : File Snapshot) (rows : Rows) (t : Table) → AreListed snap.body.meta t → AreOfRows rows t
    → AreOfRows (filter (λ row. is_listed (Some snap) row.0) rows) t
rows_still snap rows [] at there = tt
rows_still snap rows (row ∷ t) at there = (
  subst (λ (o : Option (File Targets)). IsSome o)
      (sym (value_kept same_place place_one (λ place. is_listed (Some snap) place) rows (row.0.0, row.0.1) (named_at snap.body.meta row.0.0 row.0.1 at.0))) there.0,
  rows_still snap rows t at.1 there.1,
)

module _ (root : File Root) (snap : File Snapshot) (rows more : Rows) (same : AreSame snap.body.meta rows more) where
  abbrev V : Shelf
  V = shelf_of root snap rows

  abbrev W : Shelf
  W = shelf_of root snap more

  docs : (role : Name) → doc V role ≡ doc W role
  docs role = doc_same (top_edge root) snap.body.meta rows more same role

  edge_same : (e : Edge) → IsEdge V e → IsEdge W e
  edge_same _ top = top
  edge_same _ (onward role file ds d there has in_list) = onward role file ds d (sym (docs role) ∙ there) has in_list

  wanted_same : (role : Name) (pair : Pair) → IsWanted V role pair → IsWanted W role pair
  wanted_same role pair w = record {
    edge = w.edge;
    file = w.file;
    is_edge = edge_same w.edge w.is_edge;
    into = w.into;
    there = sym (docs role) ∙ w.there;
    of = w.of;
  }

few_same : (root : File Root) (snap : File Snapshot) (rows more : Rows) → AreSame snap.body.meta rows more → AreFew (shelf_of root snap more) → AreFew (shelf_of root snap rows)
few_same root snap rows more same few = (few.0, few.1, λ role pair w. few.2 role pair (wanted_same root snap rows more same role pair w))

complete_same : (root : File Root) (snap : File Snapshot) (rows more : Rows) (t : Table) → AreSame snap.body.meta rows more
    → IsComplete (shelf_of root snap rows) t → IsComplete (shelf_of root snap more) t
complete_same root snap rows more t same whole few role pair w =
    whole (few_same root snap rows more same few) role pair (wanted_same root snap more rows (same_back snap.body.meta rows more same) role pair w)

-- ---- what is known of all rows, and names listed ones alone, is what is known of the listed ones

pub known_kept : (T : Trusted) (t : Table) → IsKnown T t → AreAtListed T.snapshot t → IsKnown (record T { shelf = kept_rows T }) t
known_kept T t known at = record {
  sound = true_still (λ place. is_listed T.snapshot place) T.shelf t known.sound;
  rows = listed_rows T.snapshot refl at;
  complete = complete_under T.root T.snapshot refl known.complete;
}
  where
    listed_rows : (o : Option (File Snapshot)) → T.snapshot ≡ o → AreAtListed o t → AreOfRows (kept_rows T) t
    listed_rows None is none = rw none tt
    listed_rows (Some snap) is listed =
        subst (λ (o : Option (File Snapshot)). AreOfRows (filter (λ row. is_listed o row.0) T.shelf) t) (sym is) (rows_still snap T.shelf t listed known.rows)

    complete_under : (r : Option (File Root)) (o : Option (File Snapshot)) → T.snapshot ≡ o
        → IfSome r (λ root. IfSome o (λ snap. IsComplete (shelf_of root snap T.shelf) t)) → IfSome r (λ root. IfSome o (λ snap. IsComplete (shelf_of root snap (kept_rows T)) t))
    complete_under None o is h = tt
    complete_under (Some root) None is h = tt
    complete_under (Some root) (Some snap) is h =
        complete_same root snap T.shelf (kept_rows T) t (same_back snap.body.meta (kept_rows T) T.shelf (kept_same T snap is)) h
