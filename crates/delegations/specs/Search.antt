-- Good documents, the search for a target, and when a new targets document is vouched for. (TUF 1.0, section 5.6.7)
use Rattle.std.specs.Prelude.{◌≡◌, ℕ, ◌<◌, ◌≤◌, IsSomeAnd, Bool, true, false, cond, List, [], ◌∷◌, map, length, take, Option, Some, None, option_map, option_and_then, codes, nat_lt, find, bytes_eq}
use Rattle.std.specs.List.{filter_map}
use Rattle.keys_roles.specs.Plain.{Table, look_up}
use Rattle.document_parts.specs.Documents.{Root, Snapshot, Targets, MetaFile, Delegation, Delegations, Listing}
use Rattle.metadata.specs.File.{Bytes, Name, File}
use Rattle.denials.specs.Numbers as no
use Rattle.denials.specs.Orders.{Order, RoleMissing, ◌>>=◌, ◌>>◌, give, denied, check, need, need_or}
use Rattle.document_parts.specs.Covers.{covers}
use Rattle.keys_roles.specs.Rules.{Meets}
use Rattle.delegations.specs.Delegation.{Edge, Hops, Graph, chain_end, visits}
use Rattle.delegations.specs.Rows.{Rows, row_at, HasLength, HasHash, named_row}

-- what a search reads: the edge into the top role, the snapshot's listing, and the rows on the shelf
pub record Shelf : Type 0 where
  pub top : Edge
  pub listing : List (Name × MetaFile)
  pub rows : Rows

abbrev pub top_name : Name
top_name = codes "targets"

-- the edge into `targets` has the root's rule
abbrev pub top_of : Root → Edge
top_of root = record { role = top_name; terminating = false; rule = root.targets; table = root.keys }

abbrev pub top_edge : File Root → Edge
top_edge root = top_of root.body

abbrev pub shelf_of : File Root → File Snapshot → Rows → Shelf
shelf_of root snap rows = record { top = top_edge root; listing = snap.body.meta; rows = rows }

abbrev pub edge_of : Table → Delegation → Edge
edge_of table d = record { role = d.name; terminating = d.terminating; rule = d.rule; table = table }

-- the delegations of a document in order, `None` where one does not pass the test
abbrev pub hops_of : (Delegation → Bool) → Option Delegations → Hops
hops_of covers None = []
hops_of covers (Some ds) = map (λ d. cond (covers d) (Some (edge_of ds.keys d)) None) ds.roles

-- the document's listing of the path
abbrev pub listing_of : Targets → Bytes → Option Listing
listing_of t path = find (λ l. bytes_eq l.path path) t.targets

pub record Found : Type 0 where
  pub role : Name
  pub listing : Listing

abbrev pub most_visits : ℕ
most_visits = 32

module _ (V : Shelf) where
  -- the document of a listed role
  abbrev pub doc : Name → Option (File Targets)
  doc role = option_and_then (named_row V.rows role) (look_up V.listing role)

  abbrev pub MeetsEdge : Edge → File Targets → Type 0
  MeetsEdge e file = Meets e.rule e.table file.signed file.entries

  -- the document at the end of the edge is there, meets the edge's rule and is live
  pub record Good (e : Edge) (now : ℕ) : Type 0 where
    pub file : File Targets
    pub there : doc e.role ≡ Some file
    pub meets : MeetsEdge e file
    pub live : now < file.body.expires

  abbrev pub graph_of : (Delegation → Bool) → Graph
  graph_of covers = record {
    root = V.top;
    rows = filter_map (λ m. option_map (λ file. (m.0, hops_of covers file.body.delegations)) (named_row V.rows m.0 m.1)) V.listing;
  }

  -- a visit gives the role's document
  abbrev pub visit : Edge → ℕ → Order (File Targets)
  visit e now = do
    entry ← need no.role_unlisted (look_up V.listing e.role)
    file ← need_or (RoleMissing e.role entry.version) (row_at V.rows e.role entry.version)
    check no.role_length (HasLength entry file.bytes)
    check no.role_hash (HasHash entry file.bytes)
    check no.role_threshold (MeetsEdge e file)
    check no.role_expired (now < file.body.expires)
    give file

  abbrev pub found_or : Name → Option Listing → Order Found → Order Found
  found_or role (Some l) rest = give (record { role = role; listing = l })
  found_or role None rest = rest

  -- the visits in turn up to a listing of the path, and what follows where none lists it
  abbrev pub find_in : List Edge → Bytes → ℕ → Order Found → Order Found
  find_in [] path now none = none
  find_in (e ∷ es) path now none = visit e now >>= λ file. found_or e.role (listing_of file.body path) (find_in es path now none)

  -- the edges by which a search visits, in order
  abbrev pub visited : Bytes → List Edge
  visited path = let g = graph_of (λ d. covers d path) in filter_map (chain_end g) (visits g)

  abbrev pub search : Bytes → ℕ → Order Found
  search path now =
      find_in (take most_visits (visited path)) path now
      (denied (cond (nat_lt most_visits (length (visited path))) no.too_many_roles no.not_found))

  -- a listing of the path by a role that a chain of covering delegations reaches, each of whose roles is good by its
  -- edge. It asks for less than the search: the chain need not be the first one
  pub record IsSoundly (path : Bytes) (now : ℕ) (found : Found) : Type 0 where
    pub chain : List ℕ
    pub last : Edge
    pub leads : chain_end (graph_of (λ d. covers d path)) chain ≡ Some last
    pub ends : last.role ≡ found.role
    pub good : (k : ℕ) (e : Edge) → k ≤ length chain → chain_end (graph_of (λ d. covers d path)) (take k chain) ≡ Some e → Good e now
    pub lists : IsSomeAnd (doc found.role) (λ file. listing_of file.body path ≡ Some found.listing)

  -- a chain of delegations, patterns and terminating flags disregarded, that vouches for a new document of its last role
  abbrev pub whole : Graph
  whole = graph_of (λ d. true)

  pub record Vouches (role : Name) (new : File Targets) (now : ℕ) (chain : List ℕ) : Type 0 where
    pub last : Edge
    pub leads : chain_end whole chain ≡ Some last
    pub ends : last.role ≡ role
    pub earlier : (k : ℕ) (e : Edge) → k < length chain → chain_end whole (take k chain) ≡ Some e → Good e now
    pub meets : MeetsEdge last new

  abbrev pub Vouched : Name → File Targets → ℕ → Type 0
  Vouched role new now = (chain : List ℕ) × Vouches role new now chain
