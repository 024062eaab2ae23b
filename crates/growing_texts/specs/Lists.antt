-- Lists that grow.
use Rattle.std.specs.Prelude.{◌≡◌, ◌⊎◌, List, [], ◌∷◌, ◌++◌, Option, Some, None, cond}
use Rattle.growing_texts.specs.declared.growing.Growing.{Growing}

-- the list so far, where memory was there for each of its parts
abbrev pub kept : {T : Type 0} → Growing T → Option (List T)
kept list = cond list.is_cut None (Some list.list.items)

-- the list with a part after the others; or none, where memory ran out, now or before
abbrev pub Puts : {T : Type 0} → Growing T → Growing T → T → Type 0
Puts {T} old new part = (kept new ≡ None) ⊎ ((parts : List T) × (kept old ≡ Some parts) × (kept new ≡ Some (parts ++ part ∷ [])))
