use Rattle.std.proofs.Common.{◌≡◌, ℕ, List, ◌++◌, length}
use Rattle.canonical_json.specs.Spelling.{member_front}
use Rattle.canonical_json.proofs.Skips.{front_left}
use Rattle.canonical_json.proofs.members.behind_name.Given as goal

abbrev pub invariant-name : goal.invariant-name
invariant-name l = record {
  some : (rest : List ℕ) → l.at ≡ front_left l.left ++ rest → l.fn.bytes ≡ member_front l.fn.name ++ rest;
  none : (rest : List ℕ) → l.fn.bytes ≡ member_front l.fn.name ++ rest → l.at ≡ front_left l.left ++ rest;
}

abbrev pub decreases-name : goal.decreases-name
decreases-name l = length l.left
