-- Objects that change inside others.
use Rattle.std.proofs.Common.{ℕ, List, [], ◌∷◌}
use Rattle.canonical_json.specs.Json.{Json}
use Rattle.drafting.specs.Members.{AlikeBut, IsObjectAt, Puts}
use Rattle.drafting.proofs.Listings.{put_over}
use Rattle.chain_drafting.specs.Within.{Inside}

pub inside : (name : List ℕ) (Changes : Json → Json → Type 0) (a b c old new : Json) → IsObjectAt a name old → AlikeBut (name ∷ []) a b → Puts name new b c
    → Changes old new → Inside name Changes a c
inside name Changes a b c old new was alike put changes = record {
  old = old;
  new = new;
  was = was;
  puts = put_over name new a b c alike put;
  changes = changes;
}
