-- What an allowed value has under a name is allowed, too.
use Rattle.std.proofs.Common.{◌≡◌, ℕ, ◌≤◌, suc, max, List, inl, inr, refl, subst, arith}
use Rattle.canonical_json.specs.Json.{Json, null, boolean, integer, text, array, object, Members, no_members, member, Everywhere, EachMember, IsAmong, HasMember, depth, members_depth}
use Rattle.canonical_json.specs.Spelling.{spelling, IntegerFits, IsAllowed, IsCanonical}
use Rattle.document_parts.proofs.Once.{member_proper}

among_fits : (name : List ℕ) (x : Json) (ms : Members) → EachMember IntegerFits ms → IsAmong name x ms → Everywhere IntegerFits x
among_fits name x no_members p h = absurd h
among_fits name x (member n v ms) p (inl h) = subst (λ (z : Json). Everywhere IntegerFits z) h.1 p.0
among_fits name x (member n v ms) p (inr h) = among_fits name x ms p.1 h

pub member_fits : (v : Json) (name : List ℕ) (x : Json) → Everywhere IntegerFits v → HasMember v name x → Everywhere IntegerFits x
member_fits (object ms) name x p h = among_fits name x ms p.1 h
member_fits null name x p h = absurd h
member_fits (boolean b) name x p h = absurd h
member_fits (integer z) name x p h = absurd h
member_fits (text t) name x p h = absurd h
member_fits (array vs) name x p h = absurd h

among_depth : (name : List ℕ) (x : Json) (ms : Members) → IsAmong name x ms → depth x ≤ members_depth ms
among_depth name x no_members h = absurd h
among_depth name x (member n v ms) (inl h) =
    let least : depth v ≤ max (depth v) (members_depth ms) = omega arith in
    subst (λ (z : Json). depth z ≤ max (depth v) (members_depth ms)) h.1 least
among_depth name x (member n v ms) (inr h) =
    let d : depth x ≤ members_depth ms = among_depth name x ms h in
    omega (arith, d)

member_depth : (v : Json) (name : List ℕ) (x : Json) → depth v ≤ 32 → HasMember v name x → depth x ≤ 32
member_depth (object ms) name x p h = let d = among_depth name x ms h in omega (arith, d, p)
member_depth null name x p h = absurd h
member_depth (boolean b) name x p h = absurd h
member_depth (integer z) name x p h = absurd h
member_depth (text t) name x p h = absurd h
member_depth (array vs) name x p h = absurd h

pub member_canonical : (v : Json) (bytes name : List ℕ) (x : Json) → IsCanonical v bytes → HasMember v name x → IsCanonical x (spelling x)
member_canonical v bytes name x c h = record {
  allowed = record {
    proper = member_proper v name x c.allowed.proper h;
    integers = member_fits v name x c.allowed.integers h;
    nesting = member_depth v name x c.allowed.nesting h;
  };
  spelled = refl;
}
