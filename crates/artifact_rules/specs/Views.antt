-- What the links of a call stand for.
use Rattle.std.specs.Prelude.{List, map}
use Rattle.document_parts.specs.Links as plain
use Rattle.document_parts.specs.RuleViews.{link_view}
use Rattle.document_parts.specs.declared.links.Link.{Link}
use Rattle.std.specs.Borrow.{Bor}

abbrev pub links_view : List (Bor Link) → List plain.Link
links_view links = map (λ l. link_view l.now) links
