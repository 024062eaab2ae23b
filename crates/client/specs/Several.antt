-- Several sources of one repository, each asked in its turn, and what one honest source among them is enough for.
use Rattle.std.specs.Prelude.{◌≡◌, ◌⊎◌, ◌<◌, ℕ, suc, List, [], None, Result, Ok, Err, IfOk}
use Rattle.path_patterns.specs.Grammar.{IsTargetPath}
use Rattle.metadata.specs.File.{Bytes}
use Rattle.denials.specs.Orders as orders
use Rattle.trust_rules.specs.State.{State, IsState, IsCoherent}
use Rattle.trust_rules.specs.Grants.{grants}
use Rattle.fetch.specs.Source.{Answer, Asked, Gives}
use Rattle.fetch.specs.declared.FetchFault.TheVariants as fetches
use Rattle.client.specs.Answering.{AnswersFrom}
use Rattle.client.specs.Asking.{AsksAtMost}
use Rattle.client.specs.Behind.{Behind}
use Rattle.client.specs.Session.{Fetches, Updates}
use Rattle.client.specs.Views.{Fault, Denied, Fetch, Database, OutOfMemory}

-- several sources of which one is asked: those that were, a place, and those that are left. Where a turn begins, the one at that place is asked
-- from then on; where it ended in a fault, the sources were told so.
abbrev pub Turns : Type 0 → Type 1
Turns Src = Src → ℕ → Src → Type 0

-- want of memory, or a fault of the client's own database
abbrev pub IsWant : Fault → Type 0
IsWant Database = Unit {0}
IsWant OutOfMemory = Unit {0}
IsWant (Fetch fault) = fault ≡ fetches.OutOfMemory
IsWant (Denied d) = ⊥

abbrev pub IsWanting : {A : Type 0} → Result A Fault → Type 0
IsWanting (Ok a) = ⊥
IsWanting (Err fault) = IsWant fault

-- after such an end no other source is asked: of an update, want alone; of a fetch, want, and the bytes
abbrev pub IsLast : {A : Type 0} → Result A Fault → Type 0
IsLast (Ok a) = Unit {0}
IsLast (Err fault) = IsWant fault

abbrev pub denial_or : Fault → Fault → Fault
denial_or fault (Denied d) = Denied d
denial_or fault more = fault

-- of two faults: the first denial, or where there is none, the first that says more than that there is no answer
abbrev pub worse : Fault → Fault → Fault
worse (Denied d) more = Denied d
worse (Fetch fetches.Broken) more = more
worse fault more = denial_or fault more

-- how the calls so far and one more end together: well, where one did
abbrev pub together : {A : Type 0} → Result A Fault → Result A Fault → Result A Fault
together (Ok a) r = Ok a
together (Err fault) (Ok a) = Ok a
together (Err fault) (Err more) = Err (worse fault more)

-- what becomes of the sources between two turns: a fault is told, and after a good end they are left as they are
abbrev pub Told : {Src A : Type 0} → Turns Src → ℕ → Result A Fault → Src → Src → Type 0
Told tells place (Ok a) s t = t ≡ s
Told tells place (Err fault) s t = tells s place t

-- A call over each of so many sources, from this place on, after those that ended so. Whatever an end is that is not the last, it is told, and
-- the next is asked.
module _ {Src A : Type 0} (turns tells : Turns Src) (Call : Src → State → Src → State → Result A Fault → Type 0) (IsEnd : Result A Fault → Type 0) where
  pub data InTurn : ℕ → ℕ → Result A Fault → Src → State → Src → State → Result A Fault → Type 0 where
    over : {place : ℕ} {so_far : Result A Fault} {s : Src} {C : State} → InTurn place 0 so_far s C s C so_far
    ends : {place n : ℕ} {so_far r : Result A Fault} {s t u : Src} {C D : State} → turns s place t → Call t C u D r → IsEnd r → InTurn place (suc n) so_far s C u D r
    goes : {place n : ℕ} {so_far r q : Result A Fault} {s t u v w : Src} {C D E : State} → turns s place t → Call t C u D r → (IsEnd r → ⊥)
        → Told tells place r u v → InTurn (suc place) n (together so_far r) v D w E q → InTurn place (suc n) so_far s C w E q

-- At most so many turns from this place on, in each of which at most so many names were asked for; between two of them the sources are told of a fault,
-- or left as they are, and nothing else.
pub data AsksInTurn {Src : Type 0} (gives : Gives Src) (turns tells : Turns Src) (most : ℕ) : ℕ → ℕ → Src → Src → Type 0 where
  done : {place n : ℕ} {s : Src} → AsksInTurn gives turns tells most place n s s
  one : {place n : ℕ} {s t u v w : Src} → turns s place t → AsksAtMost gives most t u → (v ≡ u) ⊎ tells u place v
      → AsksInTurn gives turns tells most (suc place) n v w → AsksInTurn gives turns tells most place (suc n) s w

-- an update by each of so many, and a fetch by each until one ends in the bytes
abbrev pub UpdatesByEach : {Src : Type 0} → Gives Src → Turns Src → Turns Src → ℕ → ℕ → Src → State → Src → State → Result (Unit {0}) Fault → Type 0
UpdatesByEach gives turns tells now count = InTurn turns tells (Updates gives now) IsWanting 0 count (Err (Fetch fetches.Broken))

abbrev pub FetchesByEach : Type 0 → {Src : Type 0} → Gives Src → Turns Src → Turns Src → ℕ → Bytes → ℕ → Src → State → Src → State → Result Bytes Fault → Type 0
FetchesByEach trusted gives turns tells now path count = InTurn turns tells (Fetches trusted gives now path []) IsLast 0 count (Err (Fetch fetches.Broken))

-- the source at this place is honest: whenever its turn begins, and whatever it was asked since, it answers as a server of this state
abbrev pub IsHonestAt : {Src : Type 0} → Gives Src → Turns Src → ℕ → State → ℕ → Type 0
IsHonestAt {Src} gives turns place S now = (s t u v : Src) (asks : List (Bytes × ℕ)) (name : Bytes) (limit : ℕ) (answer : Answer)
    → turns s place t → Asked gives t asks u → gives u name limit answer v → AnswersFrom S now name limit answer

-- the client has the server's roots, its timestamp and its snapshot
pub record IsLevel (E S : State) : Type 0 where
  pub roots : E.trusted.roots ≡ S.trusted.roots
  pub root : E.trusted.root ≡ S.trusted.root
  pub timestamp : E.trusted.timestamp ≡ S.trusted.timestamp
  pub snapshot : E.trusted.snapshot ≡ S.trusted.snapshot

abbrev pub DeniesEach : State → ℕ → Type 0
DeniesEach S now = (path : Bytes) → IsTargetPath path → (d : orders.Denial) × grants S path None now (Err (orders.Denied d))

-- An update by each of these sources: where one is honest and the client was behind its server, the client that is left, if nothing that it took
-- put it ahead, is level with the server; or neither grants anything; or there was want.
abbrev pub IsBroughtBy : {Src : Type 0} → Gives Src → Turns Src → ℕ → ℕ → State → State → Result (Unit {0}) Fault → Type 0
IsBroughtBy gives turns now count C E r = (S : State) (place : ℕ) → place < count → IsHonestAt gives turns place S now → IsState S → IsCoherent S.trusted
    → Behind C S now → Behind E S now → IsWanting r ⊎ (IsLevel E S ⊎ (DeniesEach S now × DeniesEach E now))

-- bytes that both grant, and those that the server grants, or want
pub record IsServed (S E : State) (path : Bytes) (now : ℕ) (r : Result Bytes Fault) : Type 0 where
  pub bytes : IfOk r (λ b. grants S path None now (Ok b) × grants E path None now (Ok b))
  pub all : (b : Bytes) → grants S path None now (Ok b) → IsWanting r ⊎ (r ≡ Ok b)

-- A fetch by each of these sources: where one is honest and the client was level with its server, the client that is left, if nothing that it took
-- put it ahead, has what the server grants, to the byte, and nothing else; or there was want.
abbrev pub IsServedBy : {Src : Type 0} → Gives Src → Turns Src → ℕ → Bytes → ℕ → State → State → Result Bytes Fault → Type 0
IsServedBy gives turns now path count C E r = (S : State) (place : ℕ) → place < count → IsHonestAt gives turns place S now → IsState S → IsCoherent S.trusted
    → IsLevel C S → Behind E S now → IsServed S E path now r

-- the theorem, of definitions alone, for sources of any kind: one honest source is enough
abbrev pub OneBrings : Type 1
OneBrings = (Src : Type 0) (gives : Gives Src) (turns tells : Turns Src) (count now : ℕ) (s t : Src) (C E : State) (r : Result (Unit {0}) Fault)
    → IsState C → UpdatesByEach gives turns tells now count s C t E r → IsBroughtBy gives turns now count C E r

abbrev pub OneServes : Type 1
OneServes = (trusted : Type 0) (Src : Type 0) (gives : Gives Src) (turns tells : Turns Src) (count now : ℕ) (path : Bytes) (s t : Src) (C E : State) (r : Result Bytes Fault)
    → trusted → IsState C → IsTargetPath path → FetchesByEach trusted gives turns tells now path count s C t E r → IsServedBy gives turns now path count C E r
