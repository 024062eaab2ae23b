-- How deep the parts of a value are.
use Rattle.std.proofs.Common.{ℕ, zero, suc, ◌≤◌, max, Bool, true, false, cond, List, Option, Some, None, arith}
use Rattle.std.specs.Str.{bytes_eq}
use Rattle.canonical_json.specs.Json.{Json, Items, no_items, item, Members, no_members, member, depth, items_depth, members_depth}
use Rattle.value_changes.specs.Changes.{named, item_at}

-- nothing has no depth
abbrev pub side_depth : Option Json → ℕ
side_depth None = 0
side_depth (Some v) = depth v

pub named_depth : (k : List ℕ) (ms : Members) → side_depth (named k ms) ≤ members_depth ms
named_depth k no_members = omega arith
named_depth k (member n v ms) = of_test (bytes_eq n k) (named_depth k ms)
  where
    of_test : (b : Bool) → side_depth (named k ms) ≤ members_depth ms → side_depth (cond b (Some v) (named k ms)) ≤ max (depth v) (members_depth ms)
    of_test true h = omega arith
    of_test false h = omega arith

pub item_depth : (i : ℕ) (vs : Items) → side_depth (item_at i vs) ≤ items_depth vs
item_depth i no_items = omega arith
item_depth zero (item v vs) = omega arith
item_depth (suc i) (item v vs) = let h = item_depth i vs in omega arith
