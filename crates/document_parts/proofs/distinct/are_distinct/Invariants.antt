use Rattle.std.proofs.Common.{length, map}
use Rattle.keys_roles.specs.Rules.{AreDistinct}
use Rattle.document_parts.proofs.distinct.are_distinct.Given as goal

abbrev pub invariant-items : goal.invariant-items
invariant-items g l = record {
  ahead : AreDistinct (map g.T.Named.name l.fn.items) → AreDistinct (map g.T.Named.name l.rest);
  back : AreDistinct (map g.T.Named.name l.rest) → AreDistinct (map g.T.Named.name l.fn.items);
}

abbrev pub decreases-items : goal.decreases-items
decreases-items g l = length l.rest
