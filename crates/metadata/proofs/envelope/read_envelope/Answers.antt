use Rattle.std.proofs.Common.{◌≡◌, refl, inr, subst, sym, ◌∙◌, codes}
use Rattle.canonical_json.specs.View.{view}
use Rattle.document_parts.specs.Members.{Has, IsText}
use Rattle.metadata.proofs.envelope.read_envelope.Goals as goal

pub returns-in_default-clause-err : goal.returns-in_default-clause-err
returns-in_default-clause-err c = inr (refl, λ t. c.in_default.ensures t.3.list t.1 t.3.members)

pub returns-in_default-type_of-clause-err : goal.returns-in_default-type_of-clause-err
returns-in_default-type_of-clause-err c = inr (
  refl,
  λ t.
      let both = sym c.in-Some.ensures ∙ t.3.members in
      let same : view c.in-Some.part.now ≡ t.1 = cc in
      c.in_default-type_of.ensures t.2 (subst (λ z. Has z (codes "_type") (λ x. IsText x t.2)) (sym same) t.3.typed),
)
