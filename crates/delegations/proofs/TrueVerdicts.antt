-- What a true table tells of a row: what is looked up under its place is the truth over its bytes.
use Rattle.std.proofs.Common.{◌≡◌, ℕ, Bool, true, false, cond, [], ◌∷◌, Some, unwrap_or, refl, sym, subst}
use Rattle.keys_roles.specs.Verdicts.{AreVerdicts}
use Rattle.document_parts.specs.Documents.{Targets}
use Rattle.metadata.specs.File.{Name, File}
use Rattle.delegations.specs.Rows.{Place, Rows, row_at, same_place, value_at}
use Rattle.delegations.specs.Verdicts.{Table, known_at, AreTrue}
use Rattle.delegations.proofs.KeyOrder.{place_one}

pub true_at : (rows : Rows) (T : Table) → AreTrue rows T → (role : Name) (version : ℕ) (file : File Targets) → row_at rows role version ≡ Some file
    → AreVerdicts file.signed file.entries (known_at T (role, version))
true_at rows [] h role version file there = tt
true_at rows (row ∷ T) h role version file there = at (same_place row.0 (role, version)) refl (true_at rows T h.1 role version file there)
  where
    at : (b : Bool) → same_place row.0 (role, version) ≡ b → AreVerdicts file.signed file.entries (known_at T (role, version))
        → AreVerdicts file.signed file.entries (unwrap_or (cond b (Some row.1) (value_at same_place T (role, version))) [])
    at true same later = h.0 file (subst (λ (p : Place). row_at rows p.0 p.1 ≡ Some file) (sym (place_one row.0 (role, version) same)) there)
    at false same later = later
