use Rattle.std.proofs.Common.{◌≡◌, false, true, not, ap, sym, subst, ◌∙◌, map-id}
use Rattle.keys_roles.specs.Rules.{AreDistinct}
use Rattle.keys_roles.specs.steps.Counting.{IsIn}
use Rattle.document_parts.proofs.Elements.{absent, present}
use Rattle.metadata.proofs.references.are_apart.Goals as goal

pub returns-then-not-is_among : goal.returns-then-not-is_among
returns-then-not-is_among c =
    let links = c.args.links.now in
    let path = c.args.path.now in
    let apart = absent links path (λ among.
    let t = c.is_among.ensures.1 (subst (λ z. IsIn z path) (sym (map-id links)) among) in
    let e : false ≡ true = sym c.if-not-is_among.true ∙ t in
    absurd (cc)) in (
      λ h. (apart, subst AreDistinct (map-id links) (c.are_distinct.ensures.0 h)),
      λ d. c.are_distinct.ensures.1 (subst AreDistinct (sym (map-id links)) d.1),
    )

pub returns-else-not-is_among : goal.returns-else-not-is_among
returns-else-not-is_among c =
    let among = subst (λ z. IsIn z c.args.path.now) (map-id c.args.links.now) (c.is_among.ensures.0 c.if-not-is_among.false) in (
      λ h. absurd (let e : false ≡ true = sym (ap not c.if-not-is_among.false) ∙ h in cc),
      λ d. absurd (present c.args.links.now c.args.path.now among d.0),
    )
