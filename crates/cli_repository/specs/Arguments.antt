-- The arguments of `publish`.
use Rattle.std.specs.Prelude.{◌≡◌, ℕ, ◌<◌, List, [], ◌∷◌, ◌++◌, Some, get_or, length, take}
use Rattle.path_patterns.specs.Grammar.{IsName}
use Rattle.trust_rules.specs.Offers.{Offer, offer_of}
use Rattle.denials.specs.declared.denial.Denial.TheVariants as denials
use Rattle.cli_faults.specs.declared.fault.Fault.{Fault}
use Rattle.cli_faults.specs.declared.fault.Fault.TheVariants.{Denied, Memory}

-- the argument is a role's name, a colon and a file, and the offer that of the role
pub record IsDocument (argument : List ℕ) (offer : Offer) (file : List ℕ) : Type 0 where
  pub role : List ℕ
  pub name : IsName role
  pub whole : argument ≡ role ++ 58 ∷ file
  pub offered : offer ≡ offer_of role

-- the arguments are these documents, in order
abbrev pub AreDocuments : List (List ℕ) → List (Offer × List ℕ) → Type 0
AreDocuments [] [] = Unit {0}
AreDocuments (argument ∷ arguments) (d ∷ documents) = IsDocument argument d.0 d.1 × AreDocuments arguments documents
AreDocuments _ _ = ⊥

-- the argument at the index is no document, and those before it are some
pub record IsFirstIll (arguments : List (List ℕ)) (index : ℕ) : Type 0 where
  pub there : index < length arguments
  pub none : (offer : Offer) (file : List ℕ) → IsDocument (get_or arguments index []) offer file → ⊥
  pub documents : List (Offer × List ℕ)
  pub earlier : AreDocuments (take index arguments) documents

-- why arguments are not documents: the first that is none is denied as of another shape, at its index; or memory was refused
abbrev pub IsWhyNot : List (List ℕ) → Fault → Type 0
IsWhyNot arguments Memory = Unit {0}
IsWhyNot arguments (Denied denials.WrongShape (Some index)) = IsFirstIll arguments index
IsWhyNot arguments _ = ⊥
