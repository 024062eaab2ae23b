-- Chains that are on their way: each at a number, with the value there.
use Rattle.std.specs.Prelude.{◌≡◌, ℕ, ◌+◌, ◌-◌, ◌<◌, ◌≤◌, List, [], map, sum_by, slice_index, slice_index_or, length}
use Rattle.lms.specs.declared.lanes.Chain.{Chain}
use Rattle.std.specs.List.{concat}
use Rattle.lms.specs.declared.OtsType.{OtsType}
use Rattle.lms.specs.Parameters.{chain_count, chain_end}
use Rattle.lms.specs.Chains.{below, chain, coefficient}
use Rattle.lms.specs.Keys.{derived}

-- where a chain leads
abbrev pub end_of : List ℕ → ℕ → Chain → List ℕ
end_of identifier q c = chain identifier q c.index c.from c.to c.value

abbrev pub ends : List ℕ → ℕ → List Chain → List (List ℕ)
ends identifier q cs = map (end_of identifier q) cs

-- how many steps are left to it, and to all of them
abbrev pub left : Chain → ℕ
left c = c.to - c.from

abbrev pub all_left : List Chain → ℕ
all_left cs = sum_by left cs

-- chain number i of a list
abbrev pub chain_at : List Chain → ℕ → Chain
chain_at cs i = slice_index_or cs i record { index = 0; from = 0; to = 0; value = [] }

-- it is not at its end
abbrev pub IsGoing : List Chain → ℕ → Type 0
IsGoing cs i = (chain_at cs i).from < (chain_at cs i).to

-- the same chain n steps on
pub record IsAhead (identifier : List ℕ) (q n : ℕ) (before after : Chain) : Type 0 where
  pub index : after.index ≡ before.index
  pub to : after.to ≡ before.to
  pub from : after.from ≡ before.from + n
  pub end : end_of identifier q after ≡ end_of identifier q before

-- four different chains that are not at their ends, by their places
pub record AreGoing (cs : List Chain) (places : List ℕ) : Type 0 where
  pub first : slice_index places 0 < slice_index places 1
  pub second : slice_index places 1 < slice_index places 2
  pub third : slice_index places 2 < slice_index places 3
  pub last : slice_index places 3 < length cs
  pub going_first : IsGoing cs (slice_index places 0)
  pub going_second : IsGoing cs (slice_index places 1)
  pub going_third : IsGoing cs (slice_index places 2)
  pub going_last : IsGoing cs (slice_index places 3)

-- the chains from place a to place b - 1 are at their ends
abbrev pub AreDone : List Chain → ℕ → ℕ → Type 0
AreDone cs a b = (k : ℕ) → a ≤ k → k < b → (chain_at cs k).to ≤ (chain_at cs k).from

-- the first one from a place on that is not
pub record IsFirstGoing (cs : List Chain) (start i : ℕ) : Type 0 where
  pub after : start ≤ i
  pub within : i < length cs
  pub going : IsGoing cs i
  pub before : AreDone cs start i

-- fewer than four are not at their ends
abbrev pub AreFew : List Chain → Type 0
AreFew cs = (places : List ℕ) → AreGoing cs places → ⊥

-- the values at the ends, one behind the other
abbrev pub all_ends : List ℕ → ℕ → List Chain → List ℕ
all_ends identifier q cs = concat (ends identifier q cs)

-- the chain that element i of a signature of this hash stands on
abbrev pub cut_chain : OtsType → List ℕ → List (List ℕ) → ℕ → Chain
cut_chain ots hash elements i = record { index = i; from = coefficient ots hash i; to = chain_end ots; value = slice_index_or elements i [] }

-- those of all elements
abbrev pub cut_chains : OtsType → List ℕ → List (List ℕ) → List Chain
cut_chains ots hash elements = map (cut_chain ots hash elements) (below (length elements))

-- chain i of a seed, from its private element up to the number to
abbrev pub seed_chain : List ℕ → List ℕ → ℕ → ℕ → ℕ → Chain
seed_chain identifier secret q to i = record { index = i; from = 0; to = to; value = derived identifier secret q i }

-- all of them, up to their ends, and up to where a hash cuts them
abbrev pub secret_chains : OtsType → List ℕ → List ℕ → ℕ → List Chain
secret_chains ots identifier secret q = map (λ i. seed_chain identifier secret q (chain_end ots) i) (below (chain_count ots))

abbrev pub element_chains : OtsType → List ℕ → List ℕ → ℕ → List ℕ → List Chain
element_chains ots identifier secret q hash = map (λ i. seed_chain identifier secret q (coefficient ots hash i) i) (below (chain_count ots))
