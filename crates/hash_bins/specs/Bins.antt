-- Bins: the roles among which all target paths are shared by the first hex digits of their SHA-256 (TUF 1.0, section 4.5,
-- path_hash_prefixes).
use Rattle.std.specs.Prelude.{◌≡◌, ◌*◌, ℕ, List, [], ◌∷◌, ◌++◌, codes, flat_map, length, map, take}
use Rattle.hash_bins.specs.declared.bins.Count.{Count}
use Rattle.hash_bins.specs.declared.bins.Count.TheVariants as counts

-- ---- prefixes

-- the hex digits of lower case, each as a text, in their order
abbrev pub digits : List (List ℕ)
digits =
    codes "0" ∷ codes "1" ∷ codes "2" ∷ codes "3" ∷ codes "4" ∷ codes "5" ∷ codes "6" ∷ codes "7" ∷ codes "8" ∷ codes "9" ∷ codes "a" ∷ codes "b"
    ∷ codes "c" ∷ codes "d" ∷ codes "e" ∷ codes "f" ∷ []

-- a text with one digit more, for each digit in its order
abbrev pub longer : List ℕ → List (List ℕ)
longer front = map (λ d. front ++ d) digits

-- all texts of one hex digit, and all of two, each once and in the order of their bytes
abbrev pub ones : List (List ℕ)
ones = longer []

abbrev pub twos : List (List ℕ)
twos = flat_map longer digits

-- ---- bins

-- a bin: its number as a text, and its prefixes
pub record Bin : Type 0 where
  pub number : List ℕ
  pub prefixes : List (List ℕ)

-- how many bins there are
abbrev pub number_of : Count → ℕ
number_of counts.Two = 2
number_of counts.Four = 4
number_of counts.Eight = 8
number_of counts.Sixteen = 16
number_of counts.ThirtyTwo = 32
number_of counts.SixtyFour = 64

-- the text that says so
abbrev pub text_of : Count → List ℕ
text_of counts.Two = codes "2"
text_of counts.Four = codes "4"
text_of counts.Eight = codes "8"
text_of counts.Sixteen = codes "16"
text_of counts.ThirtyTwo = codes "32"
text_of counts.SixtyFour = codes "64"

-- all prefixes of the length that so many bins ask for: one digit, and two for more than 16
abbrev pub all_of : Count → List (List ℕ)
all_of counts.Two = ones
all_of counts.Four = ones
all_of counts.Eight = ones
all_of counts.Sixteen = ones
all_of counts.ThirtyTwo = twos
all_of counts.SixtyFour = twos

-- Bins that share all prefixes: one after the other they have each of them once and in order, and every bin has as many as any other.
-- They are numbered from 0 on, in as many hex digits as a prefix has.
pub record AreBins (count : Count) (bins : List Bin) : Type 0 where
  pub many : length bins ≡ number_of count
  pub numbered : map (λ b. b.number) bins ≡ take (number_of count) (all_of count)
  pub shared : flat_map (λ b. b.prefixes) bins ≡ all_of count
  pub equal : map (λ b. length b.prefixes * number_of count) bins ≡ map (λ b. length (all_of count)) bins
