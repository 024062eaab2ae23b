use Rattle.std.proofs.Common.{length}
use Rattle.canonical_json.specs.Json.{Json}
use Rattle.canonical_json.specs.Spelling.{IsCanonical}
use Rattle.canonical_json.specs.steps.Skipping.{EndsWith}
use Rattle.canonical_json.proofs.Skips.{IsLeft}
use Rattle.canonical_json.proofs.members.find.Given as goal

abbrev pub invariant-members : goal.invariant-members
invariant-members l = record {
  back : EndsWith l.fn.bytes l.at;
  left : (v : Json) → IsCanonical v l.fn.bytes → IsLeft v l.fn.name l.at;
}

abbrev pub decreases-members : goal.decreases-members
decreases-members l = length l.at
