-- What was found out stays so: with one more row of the table, and where one more document stands on the shelf.
use Rattle.std.proofs.Common.{◌≡◌, ℕ, Bool, true, false, List, [], ◌∷◌, ◌++◌, Option, Some, None, refl, sym, ap, subst, ◌∙◌, IfNone, IfSome, IsSome}
use Rattle.keys_roles.specs.Verdicts.{AreVerdicts, Verdict}
use Rattle.document_parts.specs.Documents.{Targets}
use Rattle.metadata.specs.File.{Name, File}
use Rattle.delegations.specs.Rows.{Place, Rows, place_before, row_at, same_place, value_at, with_row}
use Rattle.delegations.specs.Verdicts.{AreFoundOut, Table}
use Rattle.delegations.specs.Views.{known_row, table_view}
use Rattle.delegations.specs.declared.verdicts.RowVerdicts.{RowVerdicts}
use Rattle.delegations.proofs.KeyOrder.{over, place_one, sorts_places}
use Rattle.delegations.proofs.PutIn.{skipped}

is_there : (o : Option (File Targets)) (file : File Targets) → o ≡ Some file → IsSome o
is_there (Some f) file is = refl
is_there None file is = absurd (cc)

not_there : (o : Option (File Targets)) → o ≡ None → IsSome o → ⊥
not_there (Some f) none h = absurd (cc)
not_there None none h = absurd (cc)

pub of_some : {A : Type 0} (P : A → Type 0) (o : Option A) (x : A) → o ≡ Some x → IfSome o P → P x
of_some P o x is h = subst (λ p. IfSome p P) is h

pub of_none : {A : Type 0} (P : Type 0) (o : Option A) → o ≡ None → IfNone o P → P
of_none P o is h = subst (λ p. IfNone p P) is h

-- ---- one more row of the table

pub rows_more : (rows : List RowVerdicts) (row : RowVerdicts) → table_view (rows ++ row ∷ []) ≡ table_view rows ++ known_row row ∷ []
rows_more [] row = refl
rows_more (r ∷ rows) row = ap (λ (T : Table). known_row r ∷ T) (rows_more rows row)

pub learned : (rows : Rows) (T : Table) (role : Name) (version : ℕ) (file : File Targets) (vs : List Verdict) → row_at rows role version ≡ Some file
    → AreVerdicts file.signed file.entries vs → AreFoundOut rows T → AreFoundOut rows (T ++ ((role, version), vs) ∷ [])
learned rows [] role version file vs there true_of found = (
  (λ other is. let k : Some file ≡ Some other = sym there ∙ is in let one : file ≡ other = cc in subst (λ (f : File Targets). AreVerdicts f.signed f.entries vs) one true_of, tt),
  (is_there (row_at rows role version) file there, tt),
)
learned rows (row ∷ T) role version file vs there true_of found =
    let rest = learned rows T role version file vs there true_of (found.0.1, found.1.1) in ((found.0.0, rest.0), (found.1.0, rest.1))

-- ---- one more document on the shelf

-- what stands at a place stays there
stays_at : (rows : Rows) (role : Name) (version : ℕ) (new : File Targets) (p : Place) → row_at rows role version ≡ None → IsSome (value_at same_place rows p)
    → value_at same_place (with_row place_before rows (role, version) new) p ≡ value_at same_place rows p
stays_at rows role version new p none there = by (same_place (role, version) p) refl
  where
    by : (b : Bool) → same_place (role, version) p ≡ b → value_at same_place (with_row place_before rows (role, version) new) p ≡ value_at same_place rows p
    by true same = absurd (not_there (value_at same_place rows p) (subst (λ (q : Place). value_at same_place rows q ≡ None) (place_one (role, version) p same) none) there)
    by false other = skipped place_before same_place sorts_places.order.through (over place_before same_place sorts_places) sorts_places.one rows (role, version) new p other

pub found_still : (rows : Rows) (T : Table) (role : Name) (version : ℕ) (new : File Targets) → row_at rows role version ≡ None
    → AreFoundOut rows T → AreFoundOut (with_row place_before rows (role, version) new) T
found_still rows [] role version new none found = found
found_still rows (row ∷ T) role version new none found =
    let rest = found_still rows T role version new none (found.0.1, found.1.1) in
    let stays = stays_at rows role version new row.0 none found.1.0 in
    ((λ file is. found.0.0 file (sym stays ∙ is), rest.0), (subst (λ (o : Option (File Targets)). IsSome o) (sym stays) found.1.0, rest.1))
