-- The rows of a snapshot, and the key tables of targets metadata and of what refers its targets to layouts, as contracts see them.
use Rattle.std.specs.Prelude.{ℕ, List, [], ◌∷◌, Option, IfSome, codes, map}
use Rattle.std.specs.List.{AllByRecursion}
use Rattle.document_parts.specs.Documents as plain
use Rattle.document_parts.specs.Parts.{IsRuleOver, NamesAreIds}
use Rattle.metadata.specs.Shape.{tables}
use Rattle.document_parts.specs.Views.{meta_view}
use Rattle.document_parts.specs.declared.documents.Meta.{Meta}

abbrev pub rows_view : List (List ℕ × Meta) → List (List ℕ × plain.MetaFile)
rows_view rows = map (λ e. (e.0, meta_view e.1)) rows

-- each name in a key table is its key's id
abbrev pub AreNamed : plain.Targets → Type 0
AreNamed t = AllByRecursion NamesAreIds (tables (plain.targets t))

-- the owners' rule is one over the table beside it
abbrev pub IsOwned : Option plain.LayoutReference → Type 0
IsOwned o = IfSome o (λ l. IsRuleOver l.keys l.owners)

-- each name in the table is its key's id
abbrev pub HasIds : Option plain.LayoutReference → Type 0
HasIds o = IfSome o (λ l. NamesAreIds l.keys)

-- the members of what refers a target to a layout, in two parts
abbrev pub first_members : List (List ℕ)
first_members = codes "keyids" ∷ codes "keys" ∷ codes "links" ∷ codes "path" ∷ []

abbrev pub last_members : List (List ℕ)
last_members = codes "product" ∷ codes "step" ∷ codes "threshold" ∷ []
