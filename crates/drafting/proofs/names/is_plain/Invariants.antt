use Rattle.std.proofs.Common.{length}
use Rattle.drafting.specs.Names.{IsPlain}
use Rattle.drafting.proofs.names.is_plain.Given as goal

abbrev pub invariant-bytes : goal.invariant-bytes
invariant-bytes l = record {
  ahead : IsPlain l.fn.bytes → IsPlain l.rest;
  back : IsPlain l.rest → IsPlain l.fn.bytes;
}

abbrev pub decreases-bytes : goal.decreases-bytes
decreases-bytes l = length l.rest
