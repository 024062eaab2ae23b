-- The order of names as texts have it, and what stands at a place of a shelf to which rows were added.
use Rattle.std.proofs.Common.{◌≡◌, ℕ, List, [], ◌∷◌, Option, Some, None, refl, ap, sym, ◌∙◌, arith}
use Rattle.std.specs.Option.{option_or}
use Rattle.std.specs.Ordering.{is_lt, nat_cmp}
use Rattle.std.specs.Cmp.Lexicographic.{slice_cmp}
use Rattle.std.specs.declared.cmp.Ordering.{Ordering}
use Rattle.std.proofs.lemmas.Bool.Decides.{nat_tests}
use Rattle.std.proofs.lemmas.Cmp.{same_from_slice_cmp}
use Rattle.document_parts.specs.Documents.{Targets}
use Rattle.metadata.specs.File.{File, Name}
use Rattle.delegations.specs.Delegation.{before}
use Rattle.delegations.specs.Rows.{Place, Rises, same_place, place_before, value_at, with_row, with_rows, Rows, row_at}
use Rattle.delegations.proofs.ByHalves.{found_rising}
use Rattle.delegations.proofs.KeyOrder.{over, sorts_places}
use Rattle.delegations.proofs.PutIn.{found_with, found_alone, found_put}

-- dictionary order is that of texts
pub before_is : (xs ys : List ℕ) (o : Ordering) → o ≡ slice_cmp nat_cmp xs ys → is_lt o ≡ before xs ys
before_is = same_from_slice_cmp nat_cmp is_lt before refl (λ _ _. refl) (λ _ _. refl) (λ x y xs ys o h. grind (arith, nat_tests))

-- what stands at a place where rows were added
all_put : (rows more : Rows) (q : Place) → value_at same_place (with_rows rows more) q ≡ found_with place_before same_place rows (value_at same_place more q) q
all_put rows [] q = found_alone place_before same_place sorts_places.order.through (over place_before same_place sorts_places) sorts_places.one rows q
all_put rows (row ∷ more) q =
    all_put (with_row place_before rows row.0 row.1) more q
    ∙ found_put place_before same_place sorts_places.order.through (over place_before same_place sorts_places) sorts_places.one rows row.0 row.1 (value_at same_place more q) q

-- the rows that were there before come first
looked_up : (held more : Rows) (role : Name) (version : ℕ) → Rises place_before held
    → row_at (with_rows held more) role version ≡ option_or (row_at held role version) (row_at more role version)
looked_up held more role version r =
    all_put held more (role, version) ∙ found_rising place_before same_place sorts_places held (row_at more role version) (role, version) r

pub at_held : (held more : Rows) (role : Name) (version : ℕ) (f : File Targets) → Rises place_before held
    → Some f ≡ row_at held role version → Some f ≡ row_at (with_rows held more) role version
at_held held more role version f r e = ap (λ o. option_or o (row_at more role version)) e ∙ sym (looked_up held more role version r)

pub at_added : (held more : Rows) (role : Name) (version : ℕ) (o : Option (File Targets)) → Rises place_before held
    → None ≡ row_at held role version → o ≡ row_at more role version → o ≡ row_at (with_rows held more) role version
at_added held more role version o r n e = e ∙ (ap (λ p. option_or p (row_at more role version)) n ∙ sym (looked_up held more role version r))
