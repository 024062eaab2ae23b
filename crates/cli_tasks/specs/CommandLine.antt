-- The command line, in the definitions of `clap`: what words say with the arguments that each subcommand has.
use Rattle.std.specs.Prelude.{◌≡◌, ◌⊎◌, ℕ, ◌≤◌, Bool, true, false, List, [], ◌∷◌, Option, Some, None, IsSome, IsTrue, nat_lt, codes, length, map, string_bytes, String}
use Rattle.std.specs.declared.alloc.Global.{Global}
use Rattle.std.specs.Str.Parse.{digits_value, without_leading_plus}
use Rattle.limits.specs.Limits.{most_documents}
use Rattle.lms.specs.declared.Params.{Params}
use Rattle.lms.specs.Parameters.{height, signing_type, width}
use Rattle.clap.specs.Words.{IsAmong, Row, Text, all_of, count_of, fault_of, first_of, subcommand_of}
use Rattle.clap.specs.declared.error.kind.ErrorKind.TheVariants.{DisplayHelp, DisplayVersion}
use Rattle.cli_words.specs.Subcommands.{last_moment, last_port, most_connections, most_days, most_seconds, release_line}
use Rattle.cli_tasks.specs.declared.tasks.Anchor.{Anchor}
use Rattle.cli_tasks.specs.declared.tasks.Anchor.TheVariants as anchors
use Rattle.cli_tasks.specs.declared.tasks.Place.{Place}
use Rattle.cli_tasks.specs.declared.tasks.Place.TheVariants.{Database, Port}
use Rattle.cli_tasks.specs.declared.tasks.AttachDraft.{AttachDraft}
use Rattle.cli_tasks.specs.declared.tasks.Draft.{Draft}
use Rattle.cli_tasks.specs.declared.tasks.Draft.TheVariants as drafts
use Rattle.cli_tasks.specs.declared.tasks.Drafting.{Drafting}
use Rattle.cli_tasks.specs.declared.tasks.Keys.{Keys}
use Rattle.cli_tasks.specs.declared.tasks.Keys.TheVariants as keys
use Rattle.cli_tasks.specs.declared.tasks.LayoutDraft.{LayoutDraft}
use Rattle.cli_tasks.specs.declared.tasks.LinkDraft.{LinkDraft}
use Rattle.cli_tasks.specs.declared.tasks.Server.{Server}
use Rattle.cli_tasks.specs.declared.tasks.Server.TheVariants as servers
use Rattle.cli_tasks.specs.declared.tasks.Showing.{Showing}
use Rattle.cli_tasks.specs.declared.tasks.TargetsDraft.{TargetsDraft}
use Rattle.cli_tasks.specs.declared.tasks.Task.{Task}
use Rattle.cli_tasks.specs.declared.tasks.Unread.{Unread}
use Rattle.cli_tasks.specs.declared.tasks.Unread.TheVariants as unread
use Rattle.cli_tasks.specs.declared.tasks.Usage.{Usage}
use Rattle.cli_tasks.specs.declared.tasks.Usage.TheVariants as usages
use Rattle.cli_tasks.specs.declared.tasks.Which.{Which}
use Rattle.cli_tasks.specs.declared.tasks.Which.TheVariants as which
use Rattle.cli_tasks.specs.declared.tasks.Subcommand.{Subcommand}
use Rattle.cli_tasks.specs.declared.tasks.Subcommand.TheVariants.{Canon, Draft as DraftOf, Export, Get, GetMany, Init, Key, NewKey, PublicKey, Prune, Publish, PublishIn, Put, Serve, Show, Sign, SignIn, Update}

-- ---- what is found for a subcommand's arguments

-- whether an argument that takes no value is there
abbrev pub is_used : List Row → Text → Bool
is_used rows id = nat_lt 0 (count_of id rows)

-- the text of an argument
abbrev pub HasText : List Row → Text → String Global → Type 0
HasText rows id s = first_of id rows ≡ Some (string_bytes s)

-- the number of an argument, within its range
abbrev pub HasNumber : List Row → Text → ℕ → ℕ → ℕ → Type 0
HasNumber rows id least most n = (t : Text) × (first_of id rows ≡ Some t)
    × (n ≡ digits_value 10 (without_leading_plus t)) × (least ≤ n) × (n ≤ most)

-- the number of an argument that may be left out
abbrev pub MayHaveNumber : List Row → Text → ℕ → ℕ → Option ℕ → Type 0
MayHaveNumber rows id least most None = first_of id rows ≡ None
MayHaveNumber rows id least most (Some n) = HasNumber rows id least most n

-- the texts of an argument, of which there may be up to so many
abbrev pub HasTexts : List Row → Text → ℕ → List (String Global) → Type 0
HasTexts rows id most ss = (all_of id rows ≡ Some (map string_bytes ss)) × (1 ≤ length ss) × (length ss ≤ most)

-- an argument that is left out
abbrev pub Lacks : List Row → Text → Type 0
Lacks rows id = all_of id rows ≡ None

-- the text of an argument that may be left out
abbrev pub MayHaveText : List Row → Text → Option (String Global) → Type 0
MayHaveText rows id None = Lacks rows id
MayHaveText rows id (Some s) = HasText rows id s

-- the texts of an argument that may be left out
abbrev pub MayHaveTexts : List Row → Text → ℕ → List (String Global) → Type 0
MayHaveTexts rows id most ss = (Lacks rows id × (ss ≡ [])) ⊎ HasTexts rows id most ss

-- where a repository is: in a database file, or at a port, beside which no moment is given
abbrev pub HasPlace : List Row → Place → Type 0
HasPlace rows (Database db) = HasText rows (codes "db") db × (first_of (codes "port") rows ≡ None)
HasPlace rows (Port port) = HasNumber rows (codes "port") 1 last_port port × (first_of (codes "db") rows ≡ None) × (first_of (codes "at") rows ≡ None)

-- the most mirrors of a client, and the most folders
abbrev pub most_mirrors : ℕ
most_mirrors = 16

-- the most times that an option stands which may stand more than once
abbrev pub most_times : ℕ
most_times = 4096

-- where a client fetches from: a port, mirrors, or folders with mirrors or without
abbrev pub HasServer : List Row → Server → Type 0
HasServer rows (servers.Port port) = HasNumber rows (codes "port") 1 last_port port × Lacks rows (codes "mirror") × Lacks rows (codes "from")
HasServer rows (servers.Mirrors mirrors) = HasTexts rows (codes "mirror") most_mirrors mirrors.items × Lacks rows (codes "port") × Lacks rows (codes "from")
HasServer rows (servers.Folders folders mirrors) = HasTexts rows (codes "from") most_mirrors folders.items
    × MayHaveTexts rows (codes "mirror") most_mirrors mirrors.items × Lacks rows (codes "port")

-- the same number, and another one where it is left out
abbrev pub HasNumberOr : List Row → Text → ℕ → ℕ → ℕ → ℕ → Type 0
HasNumberOr rows id least most other n = (Lacks rows id × (n ≡ other)) ⊎ HasNumber rows id least most n

-- the width and the height of a new key, 8 and 10 where they are left out
abbrev pub HasParamsOr : List Row → Params → Type 0
HasParamsOr rows p = HasNumberOr rows (codes "ots") 1 8 4 (width p.ots) × HasNumberOr rows (codes "height") 5 10 10 (height (signing_type p.height))

-- no option of a key of several levels
abbrev pub LacksLevels : List Row → Type 0
LacksLevels rows = Lacks rows (codes "levels") × Lacks rows (codes "lower-ots") × Lacks rows (codes "lower-height")

-- the parameters of the trees below in a new key of two levels, those of the top tree where they are left out; and none of a key of one level
abbrev pub HasLower : List Row → Params → Option Params → Type 0
HasLower rows top None = HasNumberOr rows (codes "levels") 1 2 1 1 × Lacks rows (codes "lower-ots") × Lacks rows (codes "lower-height")
HasLower rows top (Some p) = HasNumber rows (codes "levels") 1 2 2 × HasNumberOr rows (codes "lower-ots") 1 8 (width top.ots) (width p.ots)
    × HasNumberOr rows (codes "lower-height") 5 10 (height (signing_type top.height)) (height (signing_type p.height))

-- ---- drafts

-- nothing that is said of delegations
pub record LacksDelegations (rows : List Row) : Type 0 where
  pub delegate : Lacks rows (codes "delegate")
  pub bins : Lacks rows (codes "bins")
  pub terminating : false ≡ is_used rows (codes "terminating")
  pub before : Lacks rows (codes "before")
  pub undelegate : Lacks rows (codes "undelegate")

-- no option that targets metadata alone has
pub record LacksTargets (rows : List Row) : Type 0 where
  pub role : Lacks rows (codes "role")
  pub add : Lacks rows (codes "add")
  pub remove : Lacks rows (codes "remove")
  pub spread : false ≡ is_used rows (codes "spread")
  pub delegations : LacksDelegations rows

-- each target is listed in the role that covers it, or a role and delegations may be named
abbrev pub LacksRole : List Row → Type 0
LacksRole rows = Lacks rows (codes "role") × LacksDelegations rows

abbrev pub SpreadsAlone : List Row → Type 0
SpreadsAlone rows = (false ≡ is_used rows (codes "spread")) ⊎ LacksRole rows

pub record HasTargets (rows : List Row) (t : TargetsDraft) : Type 0 where
  pub role : MayHaveText rows (codes "role") t.role
  pub add : MayHaveTexts rows (codes "add") most_times t.add.items
  pub remove : MayHaveTexts rows (codes "remove") most_times t.remove.items
  pub spread : t.spread ≡ is_used rows (codes "spread")
  pub alone : SpreadsAlone rows
  pub delegate : MayHaveTexts rows (codes "delegate") most_times t.delegate.items
  pub bins : MayHaveTexts rows (codes "bins") most_times t.bins.items
  pub terminating : t.terminating ≡ is_used rows (codes "terminating")
  pub before : MayHaveText rows (codes "before") t.before
  pub undelegate : MayHaveTexts rows (codes "undelegate") most_times t.undelegate.items

-- no option that layouts alone have, and none that links alone have
abbrev pub LacksLayout : List Row → Type 0
LacksLayout rows = Lacks rows (codes "owners") × Lacks rows (codes "rules")

abbrev pub LacksLink : List Row → Type 0
LacksLink rows = Lacks rows (codes "step") × Lacks rows (codes "materials") × Lacks rows (codes "products")

abbrev pub LacksChain : List Row → Type 0
LacksChain rows = Lacks rows (codes "target") × LacksLayout rows × LacksLink rows

pub record HasLayout (rows : List Row) (l : LayoutDraft) : Type 0 where
  pub target : HasText rows (codes "target") l.target
  pub owners : HasText rows (codes "owners") l.owners
  pub rules : MayHaveText rows (codes "rules") l.rules
  pub steps : HasTexts rows (codes "word") most_documents l.steps.items

pub record HasLink (rows : List Row) (l : LinkDraft) : Type 0 where
  pub step : HasText rows (codes "step") l.step
  pub materials : MayHaveTexts rows (codes "materials") most_times l.materials.items
  pub products : MayHaveTexts rows (codes "products") most_times l.products.items

-- a role, a key and a signature of another tool
abbrev pub HasAttach : List Row → AttachDraft → Type 0
HasAttach rows a = HasText rows (codes "key") a.key × HasTexts rows (codes "word") 2 (a.role ∷ a.signature ∷ [])

-- what is said of a draft that is made
abbrev pub LacksTerms : List Row → Type 0
LacksTerms rows = Lacks rows (codes "expires") × (false ≡ is_used rows (codes "anew"))

-- `--key` stands beside a signature of another tool alone
abbrev pub LacksKey : List Row → Draft → Type 0
LacksKey rows (drafts.Attach a) = Unit {0}
LacksKey rows kind = Lacks rows (codes "key")

-- the kind by its name, with what belongs to it and nothing else
abbrev pub HasKind : List Row → Text → Draft → Type 0
HasKind rows kind (drafts.Root rules) = (kind ≡ codes "root") × MayHaveTexts rows (codes "word") most_documents rules.items × LacksTargets rows
    × LacksChain rows
HasKind rows kind (drafts.Targets t) = (kind ≡ codes "targets") × HasTargets rows t × Lacks rows (codes "word") × LacksChain rows
HasKind rows kind (drafts.Layout l) = (kind ≡ codes "layout") × HasLayout rows l × LacksTargets rows × LacksLink rows
HasKind rows kind (drafts.Link l) = (kind ≡ codes "link") × HasLink rows l × Lacks rows (codes "word") × LacksTargets rows × Lacks rows (codes "target")
    × LacksLayout rows
HasKind rows kind drafts.Seal = (kind ≡ codes "seal") × Lacks rows (codes "word") × LacksTargets rows × LacksChain rows
HasKind rows kind (drafts.Take target files) = (kind ≡ codes "take") × MayHaveText rows (codes "target") target
    × HasTexts rows (codes "word") most_documents files.items × LacksTargets rows × LacksLayout rows × LacksLink rows
HasKind rows kind (drafts.Message role) = (kind ≡ codes "message") × HasTexts rows (codes "word") 1 (role ∷ []) × LacksTargets rows × LacksChain rows
    × LacksTerms rows × Lacks rows (codes "db")
HasKind rows kind (drafts.Attach a) = (kind ≡ codes "attach") × HasAttach rows a × LacksTargets rows × LacksChain rows × LacksTerms rows

abbrev pub HasDraft : List Row → Drafting → Type 0
HasDraft rows d = MayHaveText rows (codes "db") d.db × HasText rows (codes "in") d.folder × MayHaveText rows (codes "expires") d.expires
    × (d.anew ≡ is_used rows (codes "anew")) × ((kind : Text) × (first_of (codes "kind") rows ≡ Some kind) × HasKind rows kind d.kind)
    × LacksKey rows d.kind

-- ---- keys

-- no book, no seed and no parameters
abbrev pub LacksPair : List Row → Type 0
LacksPair rows = Lacks rows (codes "book") × Lacks rows (codes "seed") × Lacks rows (codes "ots") × Lacks rows (codes "height")
    × (false ≡ is_used rows (codes "known"))

-- the keys that sign in a folder: each of several, or one of a list, and not both
abbrev pub HasKeys : List Row → Keys → Type 0
HasKeys rows (keys.Each names) = HasTexts rows (codes "key") most_documents names.items × Lacks rows (codes "any")
HasKeys rows (keys.Any list) = HasText rows (codes "any") list × Lacks rows (codes "key")

-- where the root is from by which what is held is judged: at most one of the three is given
abbrev pub HasAnchor : List Row → Option Anchor → Type 0
HasAnchor rows None = Lacks rows (codes "db") × Lacks rows (codes "port") × Lacks rows (codes "anchor")
HasAnchor rows (Some (anchors.Database db)) = HasText rows (codes "db") db × Lacks rows (codes "port") × Lacks rows (codes "anchor")
HasAnchor rows (Some (anchors.Port port)) = HasNumber rows (codes "port") 1 last_port port × Lacks rows (codes "db") × Lacks rows (codes "anchor")
HasAnchor rows (Some (anchors.Root file)) = HasText rows (codes "anchor") file × Lacks rows (codes "db") × Lacks rows (codes "port")

-- no folder, and nothing that is said of one
pub record LacksFolder (rows : List Row) : Type 0 where
  pub folder : Lacks rows (codes "in")
  pub anchor : HasAnchor rows None
  pub strict : false ≡ is_used rows (codes "strict")
  pub agreed : false ≡ is_used rows (codes "yes")
  pub again : false ≡ is_used rows (codes "again")

-- the names of new keys: that of `--new` first, and then the operands in order
abbrev pub HasNames : List Row → List (String Global) → Type 0
HasNames rows names = (first : String Global) × (others : List (String Global)) × (names ≡ first ∷ others) × HasText rows (codes "new") first
    × MayHaveTexts rows (codes "name") most_documents others

-- the width of the one-time signatures and the height of the tree
abbrev pub HasParams : List Row → Params → Type 0
HasParams rows p = HasNumber rows (codes "ots") 1 8 (width p.ots) × HasNumber rows (codes "height") 5 10 (height (signing_type p.height))

-- ---- what is shown

-- nothing that is said of the documents that a repository holds, or of one target
pub record LacksTree (rows : List Row) : Type 0 where
  pub due : Lacks rows (codes "due")
  pub keys : Lacks rows (codes "key")
  pub path : Lacks rows (codes "path")

-- no folder, or nothing that is said of a repository alone
abbrev pub ShowsAlone : List Row → Type 0
ShowsAlone rows = Lacks rows (codes "in") ⊎ (LacksTree rows × (false ≡ is_used rows (codes "list")))

-- no list of targets, or nothing that is said of documents, and no page
abbrev pub ListsAlone : List Row → Type 0
ListsAlone rows = (false ≡ is_used rows (codes "list")) ⊎ (LacksTree rows × Lacks rows (codes "html"))

pub record HasShowing (rows : List Row) (s : Showing) : Type 0 where
  pub db : MayHaveText rows (codes "db") s.db
  pub folder : MayHaveText rows (codes "in") s.folder
  pub one : IsSome s.db ⊎ IsSome s.folder
  pub due : MayHaveNumber rows (codes "due") 0 most_days s.due
  pub list : s.list ≡ is_used rows (codes "list")
  pub keys : MayHaveTexts rows (codes "key") most_documents s.keys.items
  pub json : s.json ≡ is_used rows (codes "json")
  pub html : MayHaveText rows (codes "html") s.html
  pub paths : MayHaveTexts rows (codes "path") 1 s.paths.items
  pub of_folder : ShowsAlone rows
  pub of_list : ListsAlone rows

-- ---- what a client gets

-- which targets: all, of these patterns where there are any; those of a file; or those of these paths; and one of the three alone
abbrev pub HasWhich : List Row → Which → Type 0
HasWhich rows (which.All patterns) = (true ≡ is_used rows (codes "all")) × MayHaveTexts rows (codes "path") most_documents patterns.items
    × Lacks rows (codes "list")
HasWhich rows (which.Listed file) = (false ≡ is_used rows (codes "all")) × HasText rows (codes "list") file × Lacks rows (codes "path")
HasWhich rows (which.Paths paths) = (false ≡ is_used rows (codes "all")) × HasTexts rows (codes "path") most_documents paths.items
    × Lacks rows (codes "list")

-- ---- tasks

abbrev pub name_of : Subcommand → Text
name_of (Canon file) = codes "canon"
name_of (DraftOf d) = codes "draft"
name_of (Export db to) = codes "export"
name_of (Get g) = codes "get"
name_of (GetMany g) = codes "get"
name_of (Init db root) = codes "init"
name_of (Key seed params) = codes "key"
name_of (NewKey names params lower) = codes "key"
name_of (PublicKey file) = codes "key"
name_of (Prune place) = codes "prune"
name_of (Publish place documents) = codes "publish"
name_of (PublishIn place folder) = codes "publish"
name_of (Put place file) = codes "put"
name_of (Serve s) = codes "serve"
name_of (Show showing) = codes "show"
name_of (Sign s) = codes "sign"
name_of (SignIn s) = codes "sign"
name_of (Update u) = codes "update"

-- the subcommand has the options and operands that were found
abbrev pub HasArguments : List Row → Subcommand → Type 0
HasArguments rows (Canon file) = HasText rows (codes "file") file
HasArguments rows (DraftOf d) = HasDraft rows d
HasArguments rows (Export db to) = HasText rows (codes "db") db × HasText rows (codes "to") to
HasArguments rows (Get g) = HasText rows (codes "db") g.db × HasServer rows g.server
    × MayHaveNumber rows (codes "within") 1 most_seconds g.within × (g.json ≡ is_used rows (codes "json"))
    × HasText rows (codes "out") g.out × HasTexts rows (codes "path") 1 (g.path ∷ []) × Lacks rows (codes "to") × Lacks rows (codes "list")
    × (false ≡ is_used rows (codes "all"))
HasArguments rows (GetMany g) = HasText rows (codes "db") g.db × HasServer rows g.server
    × MayHaveNumber rows (codes "within") 1 most_seconds g.within × (g.json ≡ is_used rows (codes "json"))
    × HasText rows (codes "to") g.to × HasWhich rows g.which × Lacks rows (codes "out")
HasArguments rows (Init db root) = HasText rows (codes "db") db × HasText rows (codes "root") root
HasArguments rows (Key seed params) = HasText rows (codes "seed") seed × HasParams rows params × Lacks rows (codes "new") × Lacks rows (codes "name") × Lacks rows (codes "public")
    × LacksLevels rows
HasArguments rows (NewKey names params lower) = HasNames rows names.items × HasParamsOr rows params × HasLower rows params lower × Lacks rows (codes "seed")
    × Lacks rows (codes "public")
HasArguments rows (PublicKey file) = HasText rows (codes "public") file × Lacks rows (codes "seed") × Lacks rows (codes "ots") × Lacks rows (codes "height")
    × Lacks rows (codes "new") × Lacks rows (codes "name") × LacksLevels rows
HasArguments rows (Prune place) = HasPlace rows place
HasArguments rows (Publish place documents) = HasPlace rows place × HasTexts rows (codes "document") most_documents documents.items × Lacks rows (codes "in")
HasArguments rows (PublishIn place folder) = HasPlace rows place × HasText rows (codes "in") folder × Lacks rows (codes "document")
HasArguments rows (Put place file) = HasPlace rows place × HasText rows (codes "file") file
HasArguments rows (Serve s) = HasText rows (codes "db") s.db × HasNumber rows (codes "port") 1 last_port s.port
    × MayHaveNumber rows (codes "count") 1 most_connections s.count × (s.read_only ≡ is_used rows (codes "read-only"))
HasArguments rows (Show s) = HasShowing rows s
HasArguments rows (Sign s) = HasText rows (codes "book") s.book × HasText rows (codes "seed") s.seed × HasParams rows s.params
    × (s.known ≡ is_used rows (codes "known")) × HasTexts rows (codes "file") 1 (s.file ∷ []) × Lacks rows (codes "key") × Lacks rows (codes "any")
    × LacksFolder rows
HasArguments rows (SignIn s) = HasKeys rows s.keys
    × HasText rows (codes "in") s.folder × HasAnchor rows s.anchor × (s.strict ≡ is_used rows (codes "strict")) × (IsTrue s.strict → IsSome s.anchor)
    × MayHaveTexts rows (codes "file") most_documents s.documents.items × (s.yes ≡ is_used rows (codes "yes")) × (s.again ≡ is_used rows (codes "again"))
    × LacksPair rows
HasArguments rows (Update u) = HasText rows (codes "db") u.db × HasServer rows u.server
    × MayHaveNumber rows (codes "within") 1 most_seconds u.within × (u.json ≡ is_used rows (codes "json"))
    × (u.fresh ≡ is_used rows (codes "fresh"))

-- a subcommand of this name with what was found for it
abbrev pub IsAsked : Text → List Row → Subcommand → Type 0
IsAsked name rows s = (name_of s ≡ name) × HasArguments rows s

-- what was found for a subcommand's arguments is this task
abbrev pub IsTask : Text → List Row → Task → Type 0
IsTask name rows task = IsAsked name rows task.subcommand × MayHaveNumber rows (codes "at") 0 last_moment task.at
    × (task.verbose ≡ is_used rows (codes "verbose"))

-- the line has the subcommand of the task, with its options and operands
abbrev pub Says : Option (Text × List Row) → Task → Type 0
Says line task = (name : Text) × (rows : List Row) × (line ≡ Some (name, rows)) × IsTask name rows task

-- the words, the program's own name first, say this task
abbrev pub IsTaskOf : List Text → Task → Type 0
IsTaskOf words task = Says (subcommand_of release_line words) task

-- ---- help

-- the program's own name, `help` and `denials`
abbrev pub AsksForDenials : List Text → Type 0
AsksForDenials words = (program : Text) × (words ≡ program ∷ codes "help" ∷ codes "denials" ∷ [])

-- the words ask for the table of denials, or `clap` answers them with help or with the version
abbrev pub AsksForHelp : List Text → Type 0
AsksForHelp words = AsksForDenials words ⊎ (IsAmong DisplayHelp (fault_of release_line words) ⊎ IsAmong DisplayVersion (fault_of release_line words))

-- what `clap` found is no task: its text, or want of memory, and never help
abbrev pub IsRead : Unread → Usage → Type 0
IsRead (unread.Text text) usage = usage ≡ usages.Text text
IsRead unread.OutOfMemory usage = usage ≡ usages.OutOfMemory
