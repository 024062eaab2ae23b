use Rattle.std.proofs.Common.{rules, List, Ok, Err, find, map, option_map, bytes_eq, sym, ap, subst, ◌∙◌}
use Rattle.std.proofs.lemmas.Fn.{always_returns_same}
use Rattle.document_parts.specs.Documents as plain
use Rattle.document_parts.specs.Sorted.{AreInOrder}
use Rattle.document_parts.specs.Views.{listing_view}
use Rattle.document_parts.specs.declared.documents.Listing.{Listing}
use Rattle.document_parts.proofs.Halving.{order, searched, hit_name, miss_name, find_view}
use Rattle.document_parts.proofs.documents.Targets.listing.Goals as goal

pub returns-in-Ok : goal.returns-in-Ok
returns-in-Ok c =
    let q = c.args.path.now in
    let xs = c.as_slice-listings.result.now in
    let is = c.as_slice-listings.ensures.value in
    let sorted = subst (λ (z : List Listing). AreInOrder (map (λ l. l.path) z)) (sym is) c.args.self.now.in_order in
    let place = c.in-Ok.ensures.position (order (λ l. l.path) q) (always_returns_same _ _ _ (λ a r f' k. search rules)) in
    let found = searched (λ (l : Listing). l.path) q (λ l. bytes_eq l.path q) (λ l. hit_name l.path q) (λ l. miss_name l.path q) xs sorted (Ok c.in-Ok.at) c.in-Ok.ensures.bound place in
    let seen = find_view listing_view (λ (l : plain.Listing). bytes_eq l.path q) xs in
    sym (ap (λ (z : List Listing). find (λ (l : plain.Listing). bytes_eq l.path q) (map listing_view z)) (sym is) ∙ seen ∙ ap (option_map listing_view) (found c.index-listings-at.result) ∙ search rules)

pub returns-in-Err : goal.returns-in-Err
returns-in-Err c =
    let q = c.args.path.now in
    let xs = c.as_slice-listings.result.now in
    let is = c.as_slice-listings.ensures.value in
    let sorted = subst (λ (z : List Listing). AreInOrder (map (λ l. l.path) z)) (sym is) c.args.self.now.in_order in
    let place = c.in-Err.ensures.position (order (λ l. l.path) q) (always_returns_same _ _ _ (λ a r f' k. search rules)) in
    let none = searched (λ (l : Listing). l.path) q (λ l. bytes_eq l.path q) (λ l. hit_name l.path q) (λ l. miss_name l.path q) xs sorted (Err c.in-Err.field-0) c.in-Err.ensures.bound place in
    let seen = find_view listing_view (λ (l : plain.Listing). bytes_eq l.path q) xs in
    sym (ap (λ (z : List Listing). find (λ (l : plain.Listing). bytes_eq l.path q) (map listing_view z)) (sym is) ∙ seen ∙ ap (option_map listing_view) none)
