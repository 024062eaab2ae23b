use Rattle.std.proofs.Common.{rules, ◌≡◌, List, [], ◌∷◌, length, refl, ap, ◌∙◌}
use Rattle.canonical_json.specs.Json.{array, no_items}
use Rattle.canonical_json.specs.View.{view, items_view}
use Rattle.canonical_json.specs.declared.Value.{Value}
use Rattle.document_parts.proofs.Elements.{none_left}
use Rattle.document_parts.proofs.Growing.{same_items}
use Rattle.layout_files.proofs.layout.is_empty_list.Goals as goal

no_length : (vs : List Value) → items_view vs ≡ no_items → length vs ≡ 0
no_length [] e = refl
no_length (v ∷ vs) e = absurd (cc)

pub returns : goal.returns
returns c = (
  λ h. c.in-Some.ensures ∙ ap (λ (vs : List Value). array (items_view vs)) (none_left c.in-Some.items.now (search rules)),
  λ h.
      let none = no_length c.in-Some.items.now (same_items (view c.args.value.now) (items_view c.in-Some.items.now) no_items c.in-Some.ensures h) in
      search rules,
)
