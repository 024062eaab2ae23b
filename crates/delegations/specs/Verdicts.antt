-- What is known of the signatures on the shelf, and what a search would have to check of them.
use Rattle.std.specs.Prelude.{◌≡◌, ℕ, ◌+◌, ◌≤◌, List, [], ◌∷◌, ◌++◌, length, Some, None, option_map, unwrap_or, Ok, Contains, IsSome, IsTrue}
use Rattle.std.specs.List.{AllByRecursion}
use Rattle.keys_roles.specs.Plain.{look_up}
use Rattle.keys_roles.specs.Verdicts.{Pair, Verdict, AreVerdicts, is_known, pairs, unknown}
use Rattle.document_parts.specs.Documents.{Targets, MetaFile, Delegation, Delegations}
use Rattle.metadata.specs.File.{Bytes, Name, File}
use Rattle.delegations.specs.Delegation.{Edge}
use Rattle.delegations.specs.Rows.{Place, Rows, row_at, same_place, value_at}
use Rattle.delegations.specs.Search.{Shelf, doc, edge_of, listing_of, most_visits, visit, visited}

-- for rows of the shelf, by role and version, what is known of their signatures
abbrev pub Table : Type 0
Table = List (Place × List Verdict)

abbrev pub known_at : Table → Place → List Verdict
known_at T place = unwrap_or (value_at same_place T place) []

abbrev pub most_verdicts : ℕ
most_verdicts = 2048

-- how many verdicts a table has
abbrev pub verdict_count : Table → ℕ
verdict_count [] = 0
verdict_count (row ∷ rows) = length row.1 + verdict_count rows

-- each verdict, wherever it stands, is the truth of verification over the bytes of the row under whose place it stands
abbrev pub AreTrue : Rows → Table → Type 0
AreTrue rows T = AllByRecursion (λ known. (file : File Targets) → row_at rows known.0.0 known.0.1 ≡ Some file → AreVerdicts file.signed file.entries known.1) T

-- each row that the table names stands on the shelf
abbrev pub AreOfRows : Rows → Table → Type 0
AreOfRows rows T = AllByRecursion (λ row. IsSome (row_at rows row.0.0 row.0.1)) T

-- what was found out so far: each verdict is the truth, of a row that stands on the shelf
abbrev pub AreFoundOut : Rows → Table → Type 0
AreFoundOut rows T = AreTrue rows T × AreOfRows rows T

-- each row that the table names is at the version that the snapshot lists
abbrev pub AreListed : List (Name × MetaFile) → Table → Type 0
AreListed listing T = AllByRecursion (λ row. option_map (λ m. m.version) (look_up listing row.0.0) ≡ Some row.0.1) T

module _ (V : Shelf) where
  -- an edge by which a search may judge a role's document: the root's into `targets`, and those of the documents on the shelf
  pub data IsEdge : Edge → Type 0 where
    top : IsEdge V.top
    onward : (role : Name) (file : File Targets) (ds : Delegations) (d : Delegation) → doc V role ≡ Some file → file.body.delegations ≡ Some ds → Contains ds.roles d
        → IsEdge (edge_of ds.keys d)

  -- a pair that a search may meet: a signature of a role's document, and the key that its id names in the rule of an edge into the role
  pub record IsWanted (role : Name) (pair : Pair) : Type 0 where
    pub edge : Edge
    pub file : File Targets
    pub is_edge : IsEdge edge
    pub into : edge.role ≡ role
    pub there : doc V role ≡ Some file
    pub of : Contains (pairs edge.rule edge.table file.entries) pair

  abbrev pub AreFew : Type 0
  AreFew = (ws : List (Name × Pair)) × (length ws ≤ most_verdicts) × ((role : Name) (pair : Pair) → IsWanted role pair → Contains ws (role, pair))

  -- what is known of the document of a role
  abbrev pub known_of : Table → Name → List Verdict
  known_of T role = unwrap_or (option_map (λ entry. known_at T (role, entry.version)) (look_up V.listing role)) []

  -- where there are at most 2,048 wanted pairs, the table holds each of them
  abbrev pub IsComplete : Table → Type 0
  IsComplete T = AreFew → (role : Name) (pair : Pair) → IsWanted role pair → IsTrue (is_known (known_of T role) pair)

  -- how many pairs the visit by an edge meets that the table does not hold
  abbrev pub lacking : Table → Edge → ℕ
  lacking T e = unwrap_or (option_map (λ file. unknown (known_of T e.role) (pairs e.rule e.table file.entries)) (doc V e.role)) 0

  abbrev pub all_lacking : Table → List Edge → ℕ
  all_lacking T [] = 0
  all_lacking T (e ∷ es) = lacking T e + all_lacking T es

  -- the visit by the edge gives a document that does not list the path
  pub record PassesBy (path : Bytes) (now : ℕ) (e : Edge) : Type 0 where
    pub file : File Targets
    pub visits : visit V e now (Ok file)
    pub lists_not : listing_of file.body path ≡ None

  -- edges by which the search visits, in order: up to the first visit that ends it
  pub record AreVisited (path : Bytes) (now : ℕ) (es : List Edge) : Type 0 where
    pub passed : List Edge
    pub last : List Edge
    pub rest : List Edge
    pub are : es ≡ passed ++ last
    pub one : length last ≤ 1
    pub few : length es ≤ most_visits
    pub first : visited V path ≡ es ++ rest
    pub on : AllByRecursion (PassesBy path now) passed

  -- the number of checks that a search makes is at most that of the pairs met that the table does not hold
  pub record Costs (T : Table) (path : Bytes) (now count : ℕ) : Type 0 where
    pub edges : List Edge
    pub visited : AreVisited path now edges
    pub most : count ≤ all_lacking T edges
