-- The artifacts of a side are in order.
use Rattle.std.proofs.Common.{◌≡◌, ℕ, List, [], ◌∷◌, map, refl, sym, ap, subst}
use Rattle.path_patterns.specs.declared.Digest.{Digest}
use Rattle.document_parts.specs.Links.{side_of}
use Rattle.document_parts.specs.RuleViews.{artifacts_view, link_view, side_view}
use Rattle.document_parts.specs.Sorted.{AreInOrder}
use Rattle.document_parts.specs.declared.links.Artifacts.{Artifacts}
use Rattle.document_parts.specs.declared.links.Link.{Link}
use Rattle.document_parts.specs.declared.rules.Side.{Side}
use Rattle.document_parts.specs.declared.rules.Side.TheVariants.{Materials, Products}

names : (rows : List (List ℕ × Digest)) → map (λ (e : List ℕ × List ℕ). e.0) (map (λ (r : List ℕ × Digest). (r.0, r.1.0)) rows) ≡ map (λ (r : List ℕ × Digest). r.0) rows
names [] = refl
names (r ∷ rows) = ap (λ ns. r.0 ∷ ns) (names rows)

ordered : (a : Artifacts) → AreInOrder (map (λ e. e.0) (artifacts_view a))
ordered a = subst AreInOrder (sym (names a.rows.items)) a.in_order

pub side_in_order : (side : Side) (link : Link) → AreInOrder (map (λ e. e.0) (side_of (side_view side) (link_view link)))
side_in_order Materials link = ordered link.materials
side_in_order Products link = ordered link.products
