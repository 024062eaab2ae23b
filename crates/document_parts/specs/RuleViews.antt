-- What the code's artifact rules and links stand for.
use Rattle.std.specs.Prelude.{map}
use Rattle.document_parts.specs.Rules as plain
use Rattle.document_parts.specs.Links as links
use Rattle.document_parts.specs.declared.rules.Side.{Side}
use Rattle.document_parts.specs.declared.rules.Side.TheVariants as sides
use Rattle.document_parts.specs.declared.rules.Match.{Match}
use Rattle.document_parts.specs.declared.rules.Rule.{Rule}
use Rattle.document_parts.specs.declared.rules.Rule.TheVariants as rules
use Rattle.document_parts.specs.declared.links.Artifacts.{Artifacts}
use Rattle.document_parts.specs.declared.links.Link.{Link}

abbrev pub side_view : Side → plain.Side
side_view sides.Materials = plain.materials
side_view sides.Products = plain.products

abbrev pub match_view : Match → plain.Match
match_view m = record { pattern = m.pattern; from = m.from; side = side_view m.side; to = m.to; step = m.step }

abbrev pub rule_view : Rule → plain.ArtifactRule
rule_view (rules.Create p) = plain.create p
rule_view (rules.Delete p) = plain.delete p
rule_view (rules.Modify p) = plain.modify p
rule_view (rules.Allow p) = plain.allow p
rule_view (rules.Disallow p) = plain.disallow p
rule_view (rules.Require path) = plain.require path
rule_view (rules.Match m) = plain.matching (match_view m)

abbrev pub artifacts_view : Artifacts → links.Artifacts
artifacts_view a = map (λ r. (r.0, r.1.0)) a.rows.items

abbrev pub link_view : Link → links.Link
link_view l = record { name = l.name; materials = artifacts_view l.materials; products = artifacts_view l.products }
