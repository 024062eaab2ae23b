-- The end of a mapped list, and lists of bytes.
use Rattle.std.proofs.Common.{◌≡◌, ◌<◌, ℕ, zero, suc, List, [], ◌∷◌, ◌++◌, map, ap, ◌∙◌, arith}
use Rattle.std.specs.List.{AllByRecursion}
use Rattle.std.proofs.lemmas.List.{map-append}
use Rattle.hex.specs.Hex.{IsBytes}

-- the last item of a mapped list
pub mapped_last : {X Y : Type 0} (f : X → Y) (xs init : List X) (x : X) → xs ≡ init ++ x ∷ [] → map f xs ≡ map f init ++ f x ∷ []
mapped_last f xs init x e = ap (map f) e ∙ map-append f init (x ∷ [])

pub bytes_at : (bytes : List ℕ) → AllByRecursion (λ b. b < 256) bytes → IsBytes bytes
bytes_at [] all i = omega arith
bytes_at (b ∷ bs) all zero = all.0
bytes_at (b ∷ bs) all (suc i) = bytes_at bs all.1 i
