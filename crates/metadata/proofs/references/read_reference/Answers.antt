use Rattle.std.proofs.Common.{◌≡◌, ◌∷◌, ℕ, List, false, true, codes, refl, inr, sym, subst, ◌∙◌}
use Rattle.std.proofs.lemmas.Result.{err_from_is_err_and}
use Rattle.canonical_json.specs.View.{view}
use Rattle.keys_roles.specs.Plain.{Table}
use Rattle.keys_roles.specs.Rules.{AreDistinct}
use Rattle.document_parts.specs.Parts.{HasRule}
use Rattle.document_parts.specs.steps.Tables.{spelled_table}
use Rattle.document_parts.proofs.Ill.{ill_again}
use Rattle.metadata.proofs.ReferencesOnce.{keys-once, links-once, path-once}
use Rattle.metadata.proofs.references.read_reference.Goals as goal

pub returns-in_err-owners-clause-err : goal.returns-in_err-owners-clause-err
returns-in_err-owners-clause-err c =
    let p = err_from_is_err_and c.from_residual-in_err-owners.result c.from_residual-in_err-owners.ensures.1 in
    let v = view c.args.value.now in
    let keys = spelled_table c.in_ok-keys.keys in
    rw (p.1, p.2) (ill_again _ c.in_err-owners.ensures.err
    (λ l.
    let same : l.0.keys ≡ keys = keys-once v l.0.keys keys c.requires l.1.keys c.in_ok-keys.ensures.ok in
    (l.0.owners, subst (λ (t : Table). HasRule (codes "keyids") v t l.0.owners) same l.1.owners)))

pub returns-in_err-links-clause-err : goal.returns-in_err-links-clause-err
returns-in_err-links-clause-err c =
    let p = err_from_is_err_and c.from_residual-in_err-links.result c.from_residual-in_err-links.ensures.1 in
    rw (p.1, p.2) (ill_again _ c.in_err-links.ensures.err (λ l. (l.0.links, l.1.links)))

pub returns-then-not-are_apart-clause-err : goal.returns-then-not-are_apart-clause-err
returns-then-not-are_apart-clause-err c = inr (
  refl,
  λ l.
      let v = view c.args.value.now in
      let path = path-once (codes "path") v l.0.path c.in_ok-path.path c.requires l.1.path c.in_ok-path.ensures.ok in
      let links = links-once v l.0.links c.in_ok-links.links.items c.requires l.1.links c.in_ok-links.ensures.ok in
      let apart = subst (λ (p : List ℕ). AreDistinct (p ∷ c.in_ok-links.links.items)) path (subst (λ (ps : List (List ℕ)). AreDistinct (l.0.path ∷ ps)) links l.1.distinct) in
      let e : false ≡ true = sym c.if-not-are_apart.true ∙ c.are_apart.ensures.1 (subst (λ (ps : List (List ℕ)). AreDistinct (c.in_ok-path.path ∷ ps)) (sym c.deref.ensures.value) apart) in
      absurd (cc),
)

pub returns-in_err-product-clause-err : goal.returns-in_err-product-clause-err
returns-in_err-product-clause-err c =
    let p = err_from_is_err_and c.from_residual-in_err-product.result c.from_residual-in_err-product.ensures.1 in
    rw (p.1, p.2) (ill_again _ c.in_err-product.ensures.err (λ l. (l.0.product, l.1.product)))

pub returns-in_err-step-clause-err : goal.returns-in_err-step-clause-err
returns-in_err-step-clause-err c =
    let p = err_from_is_err_and c.from_residual-in_err-step.result c.from_residual-in_err-step.ensures.1 in
    rw (p.1, p.2) (ill_again _ c.in_err-step.ensures.err (λ l. (l.0.step, l.1.step)))
