-- A member of a canonical value has a canonical text of its own.
use Rattle.std.proofs.Common.{◌≡◌, ℕ, suc, ◌≤◌, List, inl, inr, ap, subst, arith}
use Rattle.canonical_json.specs.Json.{Json, null, boolean, integer, text, array, object, Members, no_members, member, EachMember, Everywhere, IsAmong, HasMember, depth, members_depth}
use Rattle.canonical_json.specs.Spelling.{IntegerFits, IsAllowed}
use Rattle.document_parts.proofs.Once.{member_proper}

fits_among : (name : List ℕ) (x : Json) (ms : Members) → EachMember IntegerFits ms → IsAmong name x ms → Everywhere IntegerFits x
fits_among name x no_members e h = absurd h
fits_among name x (member n v ms) e (inl h) = subst (λ (z : Json). Everywhere IntegerFits z) h.1 e.0
fits_among name x (member n v ms) e (inr h) = fits_among name x ms e.1 h

depth_among : (name : List ℕ) (x : Json) (ms : Members) → IsAmong name x ms → depth x ≤ members_depth ms
depth_among name x no_members h = absurd h
depth_among name x (member n v ms) (inl h) = let same : depth v ≡ depth x = ap (λ (z : Json). depth z) h.1 in omega (arith, same)
depth_among name x (member n v ms) (inr h) = let inner : depth x ≤ members_depth ms = depth_among name x ms h in omega (arith, inner)

pub member_allowed : (v : Json) (name : List ℕ) (x : Json) → IsAllowed v → HasMember v name x → IsAllowed x
member_allowed (object ms) name x a h =
    let inner : depth x ≤ members_depth ms = depth_among name x ms h in
    let outer : suc (members_depth ms) ≤ 32 = a.nesting in
    record { proper = member_proper (object ms) name x a.proper h; integers = fits_among name x ms a.integers.1 h; nesting = omega (arith, inner, outer) }
member_allowed null name x a h = absurd h
member_allowed (boolean b) name x a h = absurd h
member_allowed (integer z) name x a h = absurd h
member_allowed (text t) name x a h = absurd h
member_allowed (array vs) name x a h = absurd h
