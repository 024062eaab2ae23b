use Rattle.std.proofs.Common.{rules, ◌++◌, ℕ, List, Ok, Err, codes, map, option_map, bytes_eq, sym, ap, subst, ◌∙◌}
use Rattle.std.proofs.lemmas.Fn.{always_returns_same}
use Rattle.keys_roles.specs.Plain.{look_up}
use Rattle.document_parts.specs.Sorted.{AreInOrder}
use Rattle.document_parts.specs.Views.{meta_view}
use Rattle.document_parts.specs.declared.documents.Meta.{Meta}
use Rattle.document_parts.proofs.Halving.{order, searched, hit_file, miss_file, look_up_view}
use Rattle.document_parts.proofs.documents.Snapshot.entry.Goals as goal

abbrev Row : Type 0
Row = List ℕ × Meta

abbrev file : Row → List ℕ
file e = e.0 ++ codes ".json"

pub returns-in-Ok : goal.returns-in-Ok
returns-in-Ok c =
    let q = c.args.role.now in
    let xs = c.as_slice-rows.result.now in
    let is = c.as_slice-rows.ensures.value in
    let sorted = subst (λ (z : List Row). AreInOrder (map file z)) (sym is) c.args.self.now.in_order in
    let place = c.in-Ok.ensures.position (order file (q ++ codes ".json")) (always_returns_same _ _ _ (λ a r f' k. search rules)) in
    let found = searched file (q ++ codes ".json") (λ e. bytes_eq e.0 q) (λ e. hit_file e.0 q) (λ e. miss_file e.0 q) xs sorted (Ok c.in-Ok.at) c.in-Ok.ensures.bound place in
    let seen = look_up_view (λ (e : Row). e.0) (λ (e : Row). meta_view e.1) q xs in
    sym (ap (λ (z : List Row). look_up (map (λ e. (e.0, meta_view e.1)) z) q) (sym is) ∙ seen ∙ ap (option_map (λ (e : Row). meta_view e.1)) (found c.index-rows-at.result) ∙ search rules)

pub returns-in-Err : goal.returns-in-Err
returns-in-Err c =
    let q = c.args.role.now in
    let xs = c.as_slice-rows.result.now in
    let is = c.as_slice-rows.ensures.value in
    let sorted = subst (λ (z : List Row). AreInOrder (map file z)) (sym is) c.args.self.now.in_order in
    let place = c.in-Err.ensures.position (order file (q ++ codes ".json")) (always_returns_same _ _ _ (λ a r f' k. search rules)) in
    let none = searched file (q ++ codes ".json") (λ e. bytes_eq e.0 q) (λ e. hit_file e.0 q) (λ e. miss_file e.0 q) xs sorted (Err c.in-Err.field-0) c.in-Err.ensures.bound place in
    let seen = look_up_view (λ (e : Row). e.0) (λ (e : Row). meta_view e.1) q xs in
    sym (ap (λ (z : List Row). look_up (map (λ e. (e.0, meta_view e.1)) z) q) (sym is) ∙ seen ∙ ap (option_map (λ (e : Row). meta_view e.1)) none)
