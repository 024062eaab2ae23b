-- Which calls put a file into its place. So at each moment the place has what stood there before, or the whole file.
use Rattle.std.specs.Prelude.{◌≡◌, ◌≢◌, ℕ, List, [], ◌∷◌, ◌++◌, Bool, true, false, Option, Some, None, All, codes, decimal}
use Rattle.path_patterns.specs.Names.{IsCutAtLast}
use Rattle.cli_placing.specs.Calls.{Call, Name, Step, did, look, create, write, give_mode, sync, rename, remove}
use Rattle.cli_placing.specs.declared.calls.Found.{Found}
use Rattle.cli_placing.specs.declared.calls.Found.TheVariants.{Nothing, File, Other}

-- whatever was called before, if that is known: since then just these calls were made, of which this is so
pub record Called (old new : Option (List Call)) (Are : List Call → Type 0) : Type 0 where
  pub so : (before : List Call) → old ≡ Some before → (since : List Call) × (new ≡ Some (before ++ since)) × Are since

-- the last part of the name of a file that is not in its place yet
abbrev pub part_name : ℕ → ℕ → Name
part_name process number = codes ".release-" ++ (decimal process ++ (codes "-" ++ (decimal number ++ codes ".part")))

-- a folder with its slash, where it is not the working folder
abbrev pub in_folder : Name → Name
in_folder [] = codes "./"
in_folder (b ∷ rest) = b ∷ rest

-- a name beside the place: in its folder, and another than its own
pub record IsBeside (place beside : Name) : Type 0 where
  pub folder : Name
  pub own : Name
  pub process : ℕ
  pub number : ℕ
  pub is_cut : IsCutAtLast place folder own
  pub is_in_folder : beside ≡ in_folder folder ++ part_name process number
  pub is_another : part_name process number ≢ own

-- a name beside the place at which no file could be created
abbrev pub IsRefused : Name → ℕ → Call → Type 0
IsRefused place mode call = (beside : Name) × IsBeside place beside × (call ≡ did (create beside mode) false)

-- what stands where a file may be put: a file of a mode, or nothing
abbrev pub found_of : Option ℕ → Found
found_of None = Nothing
found_of (Some mode) = File mode

-- the mode of what stood there is given to the new file
abbrev pub modes : Name → Option ℕ → List Step
modes beside None = []
modes beside (Some mode) = give_mode beside mode ∷ []

-- what is done with a new file beside the place, until it stands in its place
abbrev pub filling : Name → Name → List ℕ → Option ℕ → List Step
filling place beside bytes stood = write beside bytes ∷ (modes beside stood ++ sync beside ∷ rename beside place ∷ [])

-- the steps were made in this order up to the first that failed, and whether none did
pub data Runs : List Step → List Call → Bool → Type 0 where
  done : Runs [] [] true
  fails : (step : Step) (more : List Step) → Runs (step ∷ more) (did step false ∷ []) false
  goes_on : (step : Step) (more : List Step) (calls : List Call) (ok : Bool) → Runs more calls ok → Runs (step ∷ more) (did step true ∷ calls) ok

-- what is called at the end: nothing, or after a failure the removal of the new file
abbrev pub IsLeft : Name → Bool → List Call → Type 0
IsLeft beside true calls = calls ≡ []
IsLeft beside false calls = (ok : Bool) × (calls ≡ did (remove beside) ok ∷ [])

-- These calls put a file of these bytes into the place, where none stood with this mode less the process's mask, or they end before, and the
-- place is left as it was: what stands there was not seen, or is no file; no name beside the place could be had; or a step failed.
pub data Puts (place bytes : Name) (mode : ℕ) : List Call → Bool → Type 0 where
  not_seen : Puts place bytes mode (look place None ∷ []) false
  no_file : Puts place bytes mode (look place (Some Other) ∷ []) false
  none_begun : (stood : Option ℕ) (tried : List Call) → All (IsRefused place mode) tried
      → Puts place bytes mode (look place (Some (found_of stood)) ∷ tried) false
  begun : (stood : Option ℕ) (tried : List Call) → All (IsRefused place mode) tried
      → (beside : Name) → IsBeside place beside
      → (calls : List Call) (ok : Bool) → Runs (filling place beside bytes stood) calls ok
      → (last : List Call) → IsLeft beside ok last
      → Puts place bytes mode (look place (Some (found_of stood)) ∷ (tried ++ did (create beside mode) true ∷ (calls ++ last))) ok
