use Rattle.std.proofs.Common.{◌≡◌, List, [], ◌∷◌, ◌++◌, append_assoc, map, sym, ap, ◌∙◌}
use Rattle.std.proofs.lemmas.List.{map-append}
use Rattle.canonical_json.specs.Json.{Json, array}
use Rattle.canonical_json.specs.View.{items_of, view}
use Rattle.canonical_json.specs.declared.Value.{Value}
use Rattle.drafting.specs.steps.Rows.{texts_view}
use Rattle.chain_drafting.specs.Layouts.{left_by, made, nothing_more, texts}
use Rattle.chain_drafting.specs.steps.Said.{text_of}
use Rattle.chain_drafting.proofs.artifact_rules.usual_product_rules.Goals as goal

pub returns : goal.returns
returns c =
    let left = left_by (text_of c.args.before) in
    let mine = made (texts_view c.args.products.now) in
    let first : map view c.new-list.result.items ≡ [] = ap (λ (l : List Value). map view l) c.new-list.ensures.items in
    let all : map view c.push_rule.new.list.items ≡ (([] ++ map texts left) ++ map texts mine) ++ texts nothing_more ∷ []
    = cc (first, c.in_ok-push_left.ensures, c.in_ok-push_made.ensures, c.in_ok-push_rule.ensures) in
    let split : map texts (left ++ (mine ++ nothing_more ∷ [])) ≡ map texts left ++ (map texts mine ++ texts nothing_more ∷ [])
    = map-append texts left (mine ++ nothing_more ∷ []) ∙ ap (λ (l : List Json). map texts left ++ l) (map-append texts mine (nothing_more ∷ [])) in
    c.list_value.ensures ∙ ap (λ (l : List Json). array (items_of l)) (all ∙ (append_assoc (map texts left) (map texts mine) (texts nothing_more ∷ []) ∙ sym split))
