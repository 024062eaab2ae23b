-- Verdicts on their way: over the edges that are left into one role, and over the roles that are left.
use Rattle.std.specs.Prelude.{◌≡◌, ◌⊎◌, List, [], map, Some, option_map, Contains, IsTrue}
use Rattle.std.specs.List.{AllByRecursion}
use Rattle.keys_roles.specs.Plain.{look_up}
use Rattle.keys_roles.specs.Rules.{AreDistinct}
use Rattle.keys_roles.specs.Verdicts.{Pair, Verdict, AreVerdicts, is_known, pairs}
use Rattle.keys_roles.specs.steps.Counting.{IsIn}
use Rattle.document_parts.specs.Documents.{Targets, Delegation, Delegations}
use Rattle.metadata.specs.File.{Name, Names, File}
use Rattle.delegations.specs.Delegation.{Edge}
use Rattle.delegations.specs.Rows.{Place, row_at}
use Rattle.delegations.specs.Search.{Shelf, doc, edge_of}
use Rattle.delegations.specs.Verdicts.{Table, IsEdge, IsWanted}

module _ (V : Shelf) where
  -- edges of the shelf: the root's, and all those of documents but of the roles that are left
  pub record AreEdges (left : Names) (es : List Edge) : Type 0 where
    pub each : AllByRecursion (IsEdge V) es
    pub top : IsIn es V.top
    pub all : (role : Name) (file : File Targets) (ds : Delegations) (d : Delegation) → doc V role ≡ Some file → file.body.delegations ≡ Some ds → Contains ds.roles d
        → IsIn es (edge_of ds.keys d) ⊎ IsIn left role

  -- verdicts on the document of a role: on each wanted pair but those of the edges that are left, on no other, and on none twice
  pub record IsGathered (role : Name) (file : File Targets) (left : List Edge) (vs : List Verdict) : Type 0 where
    pub each : AllByRecursion (IsEdge V) left
    pub are : AreVerdicts file.signed file.entries vs
    pub distinct : AreDistinct (map (λ v. v.pair) vs)
    pub wanted : (p : Pair) → IsTrue (is_known vs p) → IsWanted V role p
    pub all : (e : Edge) (p : Pair) → IsEdge V e → e.role ≡ role → Contains (pairs e.rule e.table file.entries) p → IsTrue (is_known vs p) ⊎ IsIn left e

  -- a row of a table, with all verdicts on the document of its role
  pub record IsRow (row : Place × List Verdict) : Type 0 where
    pub file : File Targets
    pub there : doc V row.0.0 ≡ Some file
    pub listed : option_map (λ m. m.version) (look_up V.listing row.0.0) ≡ Some row.0.1
    pub stands : row_at V.rows row.0.0 row.0.1 ≡ Some file
    pub gathered : IsGathered row.0.0 file [] row.1

  -- a row for each role that has a document but those that are left
  pub record AreGathered (left : Names) (T : Table) : Type 0 where
    pub apart : AreDistinct left
    pub rows : AllByRecursion IsRow T
    pub distinct : AreDistinct (map (λ row. row.0.0) T)
    pub fresh : AllByRecursion (λ row. IsIn left row.0.0 → ⊥) T
    pub all : (role : Name) (file : File Targets) → doc V role ≡ Some file → IsIn (map (λ row. row.0.0) T) role ⊎ IsIn left role
