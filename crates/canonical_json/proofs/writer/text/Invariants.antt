use Rattle.std.proofs.Common.{◌≡◌, [], ◌∷◌, ◌++◌, ◌≤◌, length, vec_capacity}
use Rattle.canonical_json.specs.steps.Writing.{GoesOn}
use Rattle.canonical_json.specs.steps.Texts.{closed_text}
use Rattle.canonical_json.proofs.writer.text.Given as goal

abbrev pub invariant-bytes : goal.invariant-bytes
invariant-bytes l = record {
  front : GoesOn l.fn.out.items l.out.items;
  room : vec_capacity l.fn.out ≤ vec_capacity l.out;
  text : l.out.items ++ closed_text l.rest [] ≡ l.fn.out.items ++ 34 ∷ closed_text l.fn.text [];
}

abbrev pub decreases-bytes : goal.decreases-bytes
decreases-bytes l = length l.rest
