-- What `reserve` is to do, and which leaf of a key is the next.
use Rattle.std.specs.Prelude.{◌⊎◌, ◌<◌, ℕ, List}
use Rattle.sqlite_rules.specs.Lists.{Has}
use Rattle.lms.specs.Keys.{leaf_count}
use Rattle.lms.specs.declared.Params.{Params}
use Rattle.leaf_plans.specs.declared.planning.Plan.{Plan}
use Rattle.leaf_plans.specs.declared.planning.Plan.TheVariants.{Held, New, Spent, Unknown}
use Rattle.leaf_plans.specs.Book.{Book, IsLeastUnused, IsRegistered, IsUsed, Keeps, LacksMessage}

-- none of the values is so
abbrev pub HasNone : {V : Type 0} → (V → Type 0) → List V → Type 0
HasNone {V} P vs = (v : V) → Has vs v → P v → ⊥

abbrev pub IsPlan : Book → List ℕ → List ℕ → Plan → Type 0
IsPlan b key message (Held leaf params) = IsRegistered b key params × (leaf < leaf_count params) × Keeps b key leaf message
IsPlan b key message (New leaf params) = IsRegistered b key params × (leaf < leaf_count params) × LacksMessage b key message × IsLeastUnused b key leaf
IsPlan b key message Spent = ((params : Params) × IsRegistered b key params × ((leaf : ℕ) → leaf < leaf_count params → IsUsed b key leaf)) × LacksMessage b key message
IsPlan b key message Unknown = (params : Params) → IsRegistered b key params → ⊥

-- ---- the next leaf of a key

-- the key is registered, and each leaf of its tree is used
abbrev pub AreUsed : Book → List ℕ → Type 0
AreUsed b key = (params : Params) × IsRegistered b key params × ((leaf : ℕ) → leaf < leaf_count params → IsUsed b key leaf)

-- the key is not registered, or each leaf is used
abbrev pub HasNoLeaf : Book → List ℕ → Type 0
HasNoLeaf b key = ((params : Params) → IsRegistered b key params → ⊥) ⊎ AreUsed b key

-- the least leaf of a registered key's tree that is not used
abbrev pub IsNextLeaf : Book → List ℕ → ℕ → Type 0
IsNextLeaf b key leaf = ((params : Params) × IsRegistered b key params × (leaf < leaf_count params)) × IsLeastUnused b key leaf
