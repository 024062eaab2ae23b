-- What a client asks of a source: few names, each once.
use Rattle.std.specs.Prelude.{◌≡◌, ℕ, ◌≤◌, false, List, [], ◌∷◌, map, length}
use Rattle.metadata.specs.File.{Bytes, Names, has_name}
use Rattle.fetch.specs.Source.{Gives, Asked}

-- no name is there twice
abbrev pub AreDistinct : Names → Type 0
AreDistinct [] = Unit {0}
AreDistinct (name ∷ names) = (has_name names name ≡ false) × AreDistinct names

-- at most so many were asked for
pub record AsksAtMost {Src : Type 0} (gives : Gives Src) (most : ℕ) (s t : Src) : Type 0 where
  pub list : List (Bytes × ℕ)
  pub asked : Asked gives s list t
  pub few : length list ≤ most

-- and each name once
pub record AsksOnce {Src : Type 0} (gives : Gives Src) (most : ℕ) (s t : Src) : Type 0 where
  pub list : List (Bytes × ℕ)
  pub asked : Asked gives s list t
  pub few : length list ≤ most
  pub distinct : AreDistinct (map (λ a. a.0) list)
