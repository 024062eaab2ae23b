use Rattle.std.proofs.Common.{length, map}
use Rattle.keys_roles.specs.steps.Counting.{IsIn}
use Rattle.document_parts.proofs.distinct.is_among.Given as goal

abbrev pub invariant-items : goal.invariant-items
invariant-items g l = record {
  ahead : IsIn (map g.T.Named.name l.fn.items) (g.T.Named.name l.item) → IsIn (map g.T.Named.name l.rest) (g.T.Named.name l.item);
  back : IsIn (map g.T.Named.name l.rest) (g.T.Named.name l.item) → IsIn (map g.T.Named.name l.fn.items) (g.T.Named.name l.item);
}

abbrev pub decreases-items : goal.decreases-items
decreases-items g l = length l.rest
