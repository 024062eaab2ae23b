-- What serving does: one connection, and a list of them in order.
use Rattle.std.specs.Prelude.{◌≡◌, ℕ, ◌+◌, List, [], ◌∷◌, Option, None, Some, Result, Ok, Err, Bool, true, false}
use Rattle.std.specs.Io.KnownBytes.{Appends, Keeps as KeepsBytes}
use Rattle.trust_rules.specs.Runs.{Command, Reply}
use Rattle.http_messages.specs.Head.{IsInput}
use Rattle.http_messages.specs.Request.{Request, AsksOf, HasWantedOf, fault}
use Rattle.http_messages.specs.Faults.{fault_response}
use Rattle.http_messages.specs.Taken.{TookSome}
use Rattle.http_messages.specs.declared.faults.Fault.{Fault}
use Rattle.http_messages.specs.declared.faults.Fault.TheVariants.{Memory, Database}
use Rattle.http_serve.specs.Response.{IsCommand, Says, Shows, kind_of}
use Rattle.store.specs.Applies.{Replies}
use Rattle.store.specs.Standing.{Holds, IsClean, Keeps, Moves, Standing}
use Rattle.http_serve.specs.declared.replies.Answer.{Answer}
use Rattle.http_serve.specs.declared.serve.ServeFault.{ServeFault}
use Rattle.http_serve.specs.declared.serve.ServeFault.TheVariants.{Read, Write}
use Rattle.http_messages.specs.declared.line.Cut.{Cut}

-- A command was made or not: the reply of the machine's step, over a connection that is open, or the refusal where there was no memory or
-- where the database answered a fault, and nothing is changed.
pub data Made (A : Standing) (command : Command) (now : ℕ) : List ℕ → Standing → Type 0 where
  by_step : (reply : Reply) (text : List ℕ) (B : Standing) → Moves A B (λ S T. Replies (IsClean B) S command now T reply) → Says (kind_of command) reply text → Holds A B
      → Made A command now text B
  no_memory : (B : Standing) → Keeps A B → Made A command now (fault_response Memory) B
  no_database : (B : Standing) → Keeps A B → Made A command now (fault_response Database) B

-- What an input is answered by a server of all routes, or by one that only reads, and where the store stands then: a fault, what its
-- command is answered, or the refusal where there was no memory to find out which command it is. A fault of a head wants no memory.
pub data AnsweredBy (reads_only : Bool) (A : Standing) (input : List ℕ) (now : ℕ) : List ℕ → Standing → Type 0 where
  at_fault : (why : Fault) → AsksOf reads_only input (fault why) → AnsweredBy reads_only A input now (fault_response why) A
  by_command : (request : Request) (command : Command) (text : List ℕ) (B : Standing) → AsksOf reads_only input request → IsCommand request command
      → Made A command now text B → AnsweredBy reads_only A input now text B
  unread : (B : Standing) → HasWantedOf reads_only input → Keeps A B → AnsweredBy reads_only A input now (fault_response Memory) B

abbrev pub Answered : Standing → List ℕ → ℕ → List ℕ → Standing → Type 0
Answered = AnsweredBy false

-- a connection as it was found: what its reader is known to have left, what its writer is known to hold, its moment, and whether no
-- call of its reader and of its writer fails
pub record Line : Type 0 where
  pub given : Option (List ℕ)
  pub held : Option (List ℕ)
  pub now : ℕ
  pub reads : Bool
  pub writes : Bool

-- What became of a connection, whose writer holds `held` now: it took the whole answer; or the reader is one that can fail, and nothing
-- was done; or the writer is one that can fail, it took a beginning of the answer, and what was done stands.
abbrev pub EndedBy : Bool → Line → Option (List ℕ) → Standing → Result (Unit {0}) ServeFault → Standing → Type 0
EndedBy reads_only line held A (Ok u) B =
    (input : List ℕ) × IsInput line.given input × (text : List ℕ) × AnsweredBy reads_only A input line.now text B × Appends line.held held text
EndedBy reads_only line held A (Err Read) B = (line.reads ≡ true → ⊥) × (B ≡ A) × KeepsBytes line.held held
EndedBy reads_only line held A (Err Write) B =
    (line.writes ≡ true → ⊥)
    × ((input : List ℕ) × IsInput line.given input × (text : List ℕ) × AnsweredBy reads_only A input line.now text B × TookSome line.held held text)

abbrev pub Ended : Line → Option (List ℕ) → Standing → Result (Unit {0}) ServeFault → Standing → Type 0
Ended = EndedBy false

-- The same with what is told of the answer: its status, and the number of the denial that it is, if it is one. Nothing is told where
-- nothing was done.
abbrev pub ToldBy : Bool → Line → Option (List ℕ) → Standing → Result (Unit {0}) ServeFault → Option Answer → Standing → Type 0
ToldBy reads_only line held A (Ok u) (Some answer) B =
    (input : List ℕ) × IsInput line.given input × (text : List ℕ) × AnsweredBy reads_only A input line.now text B × Appends line.held held text × Shows answer text
ToldBy reads_only line held A (Ok u) None B = ⊥
ToldBy reads_only line held A (Err Read) (Some answer) B = ⊥
ToldBy reads_only line held A (Err Read) None B = (line.reads ≡ true → ⊥) × (B ≡ A) × KeepsBytes line.held held
ToldBy reads_only line held A (Err Write) (Some answer) B =
    (line.writes ≡ true → ⊥)
    × ((input : List ℕ) × IsInput line.given input × (text : List ℕ) × AnsweredBy reads_only A input line.now text B × TookSome line.held held text × Shows answer text)
ToldBy reads_only line held A (Err Write) None B = ⊥

-- a text was written whole, or a beginning of it
abbrev pub Wrote : Option (List ℕ) → Option (List ℕ) → List ℕ → Result (Unit {0}) Cut → Type 0
Wrote old new text (Ok u) = Appends old new text
Wrote old new text (Err e) = TookSome old new text

-- What an input is answered while no database can be opened: its own fault, that of the database where it asks for a command, or that
-- there was no memory to find out which command it is.
pub data UnavailableBy (reads_only : Bool) (input : List ℕ) : List ℕ → Type 0 where
  own_fault : (why : Fault) → AsksOf reads_only input (fault why) → UnavailableBy reads_only input (fault_response why)
  database_fault : (request : Request) (command : Command) → AsksOf reads_only input request → IsCommand request command
      → UnavailableBy reads_only input (fault_response Database)
  memory_fault : HasWantedOf reads_only input → UnavailableBy reads_only input (fault_response Memory)

-- what became of a connection that is so answered, as of one that is served
abbrev pub EndedUnavailable : Bool → Line → Option (List ℕ) → Result (Unit {0}) ServeFault → Type 0
EndedUnavailable reads_only line held (Ok u) =
    (input : List ℕ) × IsInput line.given input × (text : List ℕ) × UnavailableBy reads_only input text × Appends line.held held text
EndedUnavailable reads_only line held (Err Read) = (line.reads ≡ true → ⊥) × KeepsBytes line.held held
EndedUnavailable reads_only line held (Err Write) =
    (line.writes ≡ true → ⊥)
    × ((input : List ℕ) × IsInput line.given input × (text : List ℕ) × UnavailableBy reads_only input text × TookSome line.held held text)

-- the same of the answer that is told of
abbrev pub ToldUnavailable : Bool → Line → Option (List ℕ) → Result (Unit {0}) ServeFault → Option Answer → Type 0
ToldUnavailable reads_only line held (Ok u) (Some answer) =
    (input : List ℕ) × IsInput line.given input × (text : List ℕ) × UnavailableBy reads_only input text × Appends line.held held text × Shows answer text
ToldUnavailable reads_only line held (Ok u) None = ⊥
ToldUnavailable reads_only line held (Err Read) (Some answer) = ⊥
ToldUnavailable reads_only line held (Err Read) None = (line.reads ≡ true → ⊥) × KeepsBytes line.held held
ToldUnavailable reads_only line held (Err Write) (Some answer) =
    (line.writes ≡ true → ⊥)
    × ((input : List ℕ) × IsInput line.given input × (text : List ℕ) × UnavailableBy reads_only input text × TookSome line.held held text × Shows answer text)
ToldUnavailable reads_only line held (Err Write) None = ⊥

-- one for each connection that ended well
abbrev pub one_if_ok : Result (Unit {0}) ServeFault → ℕ
one_if_ok (Ok u) = 1
one_if_ok (Err e) = 0

-- connections were served in order: there is a standing between each two, and so many ended well
abbrev pub ServesBy : Bool → List Line → List (Option (List ℕ)) → Standing → Standing → ℕ → Type 0
ServesBy reads_only [] [] A B count = (B ≡ A) × (count ≡ 0)
ServesBy reads_only (line ∷ lines) (held ∷ helds) A B count =
    (result : Result (Unit {0}) ServeFault) × (mid : Standing) × (others : ℕ)
    × EndedBy reads_only line held A result mid × ServesBy reads_only lines helds mid B others × (count ≡ one_if_ok result + others)
ServesBy reads_only [] (held ∷ helds) A B count = ⊥
ServesBy reads_only (line ∷ lines) [] A B count = ⊥

abbrev pub Serves : List Line → List (Option (List ℕ)) → Standing → Standing → ℕ → Type 0
Serves = ServesBy false

-- the same with what is told of each answer
abbrev pub TellsBy : Bool → List Line → List (Option (List ℕ)) → List (Option Answer) → Standing → Standing → ℕ → Type 0
TellsBy reads_only [] [] [] A B count = (B ≡ A) × (count ≡ 0)
TellsBy reads_only (line ∷ lines) (held ∷ helds) (answer ∷ answers) A B count =
    (result : Result (Unit {0}) ServeFault) × (mid : Standing) × (others : ℕ)
    × ToldBy reads_only line held A result answer mid × TellsBy reads_only lines helds answers mid B others × (count ≡ one_if_ok result + others)
TellsBy reads_only [] [] (answer ∷ answers) A B count = ⊥
TellsBy reads_only [] (held ∷ helds) answers A B count = ⊥
TellsBy reads_only (line ∷ lines) [] answers A B count = ⊥
TellsBy reads_only (line ∷ lines) (held ∷ helds) [] A B count = ⊥
