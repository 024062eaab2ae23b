-- What the code's rows stand for, and what putting them in does to a signed part.
use Rattle.std.specs.Prelude.{ℕ, pos, List, [], ◌∷◌, codes, map, String, string_bytes}
use Rattle.std.specs.declared.alloc.Global.{Global}
use Rattle.canonical_json.specs.Json.{Json, integer, text}
use Rattle.canonical_json.specs.View.{view}
use Rattle.canonical_json.specs.declared.Value.{Value}
use Rattle.document_parts.specs.Dates.{IsDateTime}
use Rattle.drafting.specs.Members.{AlikeBut, IsObjectAt, Puts, PutsAll, Rows}
use Rattle.drafting.specs.Snapshots.{ListsRoles}
use Rattle.drafting.specs.Targets.{Said, Changes, ChangesTargets, IsListing}
use Rattle.drafting.specs.declared.terms.Terms.{Terms}
use Rattle.drafting.specs.declared.targets.Addition.{Addition}
use Rattle.drafting.specs.declared.targets.TargetsChanges.{TargetsChanges}

abbrev pub roles_view : List (String Global × ℕ) → List (List ℕ × ℕ)
roles_view roles = map (λ r. (string_bytes r.0, r.1)) roles

abbrev pub rows_view : List (String Global × Value) → Rows
rows_view rows = map (λ r. (string_bytes r.0, view r.1)) rows

abbrev pub texts_view : List (String Global) → List (List ℕ)
texts_view texts = map string_bytes texts

abbrev pub addition_view : Addition → List ℕ × Said
addition_view a = (string_bytes a.path, record { len = a.length; digest = a.digest.0 })

abbrev pub additions_view : List Addition → List (List ℕ × Said)
additions_view additions = map addition_view additions

abbrev pub changes_view : TargetsChanges → Changes
changes_view c = record { removed = texts_view c.remove.now; added = additions_view c.add.now }

-- the moment and the seconds come in
abbrev pub PutsTerms : Terms → Json → Json → Type 0
PutsTerms terms before after = (expires : List ℕ) × IsDateTime expires terms.expires
    × PutsAll ((codes "expires", text expires) ∷ (codes "term", integer (pos terms.seconds)) ∷ []) before after

-- the entries of these roles come into `meta`, and nothing else changes
pub record PutsMeta (roles : List (List ℕ × ℕ)) (before after : Json) : Type 0 where
  pub lists : ListsRoles roles before after
  pub others : AlikeBut (codes "meta" ∷ []) before after

-- a listing of the path is put that says this
pub record PutsListing (path : List ℕ) (said : Said) (before after : Json) : Type 0 where
  pub old : Json
  pub new : Json
  pub was : IsObjectAt before path old
  pub puts : Puts path new before after
  pub listing : IsListing said old new

-- the changes come into `targets`
pub record PutsTargets (changes : Changes) (before after : Json) : Type 0 where
  pub makes : ChangesTargets changes before after
  pub others : AlikeBut (codes "targets" ∷ []) before after
