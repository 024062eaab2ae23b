-- Words on objects that change inside others.
use Rattle.std.specs.Prelude.{ℕ, List, codes}
use Rattle.canonical_json.specs.Json.{Json, text, object, no_members, member}
use Rattle.drafting.specs.Members.{IsObjectAt, Puts}

-- the object that stands under the name changes so, and everything beside it is as it was
pub record Inside (name : List ℕ) (Changes : Json → Json → Type 0) (before after : Json) : Type 0 where
  pub old : Json
  pub new : Json
  pub was : IsObjectAt before name old
  pub puts : Puts name new before after
  pub changes : Changes old new

-- a signed part that says its type alone
abbrev pub typed_part : List ℕ → Json
typed_part type_name = object (member (codes "_type") (text type_name) no_members)
