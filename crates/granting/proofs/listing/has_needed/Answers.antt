use Rattle.std.proofs.Common.{◌∙◌, refl, sym}
use Rattle.document_parts.specs.Views.{listing_view, reference_view, root_view}
use Rattle.granting.proofs.TargetFiles.{needed_tells, nothing_needed}
use Rattle.granting.proofs.listing.has_needed.Goals as goal

pub returns-then-requires_layout : goal.returns-then-requires_layout
returns-then-requires_layout c =
    needed_tells (root_view c.args.root.now) c.args.path.now (listing_view c.args.listing.now) reference_view c.args.listing.now.layout _ refl
    (sym c.requires_layout.ensures ∙ c.if-requires_layout.true) c.is_some.ensures

pub returns-else-requires_layout : goal.returns-else-requires_layout
returns-else-requires_layout c =
    nothing_needed (root_view c.args.root.now) c.args.path.now (listing_view c.args.listing.now) (sym c.requires_layout.ensures ∙ c.if-requires_layout.false)
