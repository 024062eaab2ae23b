-- How reading a part of a document ends where the part is none.
use Rattle.std.specs.Prelude.{◌≡◌, ◌⊎◌}
use Rattle.document_parts.specs.declared.documents.ShapeFault.{ShapeFault}
use Rattle.document_parts.specs.declared.documents.ShapeFault.TheVariants.{WrongShape, BadKeyId, OutOfMemory}

-- memory was refused, or nothing is such a part
abbrev pub IsIll : Type 0 → ShapeFault → Type 0
IsIll Part e = (e ≡ OutOfMemory) ⊎ ((e ≡ WrongShape) × (Part → ⊥))

-- memory was refused, or a name in a table is not its key's id
abbrev pub IsMisnamed : Type 0 → ShapeFault → Type 0
IsMisnamed AreIds e = (e ≡ OutOfMemory) ⊎ ((e ≡ BadKeyId) × (AreIds → ⊥))

-- the same of a part that may name keys: it is ill, or it is one, but a name in its table is not its key's id
abbrev pub IsFaulty : {A : Type 0} → (A → Type 0) → (A → Type 0) → ShapeFault → Type 0
IsFaulty {A} Is Named e = IsIll ((a : A) × Is a) e ⊎ ((e ≡ BadKeyId) × ((a : A) × Is a × (Named a → ⊥)))
