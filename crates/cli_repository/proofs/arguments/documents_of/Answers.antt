use Rattle.std.proofs.Common.{◌≡◌, ◌∙◌, ◌+◌, ◌++◌, ℕ, suc, List, [], ◌∷◌, ap, arith, length, map, get_or, string_bytes, subst, sym, take}
use Rattle.std.proofs.lemmas.List.{get_or-map, length-map}
use Rattle.trust_rules.specs.Offers.{Offer}
use Rattle.trusted_state.specs.Views.{offer_view}
use Rattle.cli_repository.specs.Arguments.{AreDocuments, IsDocument}
use Rattle.cli_repository.proofs.Offering.{documents-next, shown-next}
use Rattle.cli_repository.proofs.arguments.documents_of.Goals as goal

pub returns-in-None-clause-none : goal.returns-in-None-clause-none
returns-in-None-clause-none c =
    let arguments = map (λ a. string_bytes a) c.args.arguments.now in
    let count : length arguments ≡ length c.args.arguments.now = length-map c.args.arguments.now (λ a. string_bytes a) in
    let here : get_or arguments c.loop-index.index [] ≡ c.as_str.result.now =
    get_or-map (λ a. string_bytes a) c.args.arguments.now c.loop-index.index _ [] c.loop-index-test.true ∙ ap (λ a. string_bytes a) (sym c.index-arguments-index.is) ∙ sym c.as_str.ensures.value in
    record {
      there = omega (arith, c.loop-index-test.true, count);
      none = λ offer file d. (rw c.in-None.is at c.in_ok-document.ensures.none) offer file (subst (λ (a : List ℕ). IsDocument a offer file) here d);
      documents = map (λ d. (offer_view d.0, d.1.now)) c.loop-index.documents.items;
      earlier = c.loop-index.invariant;
    }

pub loop-index-preserved : goal.loop-index-preserved
loop-index-preserved c =
    let arguments = map (λ a. string_bytes a) c.args.arguments.now in
    let document = c.in-Some.document in
    let count : length arguments ≡ length c.args.arguments.now = length-map c.args.arguments.now (λ a. string_bytes a) in
    let here : get_or arguments c.loop-index.index [] ≡ c.as_str.result.now =
    get_or-map (λ a. string_bytes a) c.args.arguments.now c.loop-index.index _ [] c.loop-index-test.true ∙ ap (λ a. string_bytes a) (sym c.index-arguments-index.is) ∙ sym c.as_str.ensures.value in
    let is : IsDocument (get_or arguments c.loop-index.index []) (offer_view document.0) document.1.now =
    subst (λ (a : List ℕ). IsDocument a (offer_view document.0) document.1.now) (sym here) (rw c.in-Some.is at c.in_ok-document.ensures.some) in
    let next = documents-next arguments c.loop-index.index (map (λ d. (offer_view d.0, d.1.now)) c.loop-index.documents.items) (offer_view document.0, document.1.now)
    (omega (arith, c.loop-index-test.true, count)) c.loop-index.invariant is in
    let items : map (λ d. (offer_view d.0, d.1.now)) c.push.new.self.items ≡ map (λ d. (offer_view d.0, d.1.now)) c.loop-index.documents.items ++ (offer_view document.0, document.1.now) ∷ [] =
    shown-next c.loop-index.documents.items c.push.new.self.items document c.in_ok-push-in-Some.ensures.items in
    let more : suc c.loop-index.index ≡ c.loop-index.index + 1 = omega arith in
    subst (λ (n : ℕ). AreDocuments (take n arguments) (map (λ d. (offer_view d.0, d.1.now)) c.push.new.self.items)) more
    (subst (λ (ds : List (Offer × List ℕ)). AreDocuments (take (suc c.loop-index.index) arguments) ds) (sym items) next)
