-- Ids, and the names of a table.
use Rattle.std.proofs.Common.{◌≡◌, ◌<◌, ℕ, zero, suc, List, [], ◌∷◌, length, get_or, arith, map, codes, inl, inr, subst, refl, sym, Bool, true, false, not}
use Rattle.std.specs.List.{AllByRecursion, Contains}
use Rattle.keys_roles.specs.Plain.{Table, RoleRule}
use Rattle.keys_roles.specs.steps.Counting.{IsIn}
use Rattle.path_patterns.specs.Grammar.{IsHex}
use Rattle.canonical_json.specs.Json.{Json}
use Rattle.canonical_json.specs.Spelling.{IsProper}
use Rattle.document_parts.specs.steps.Faults.{IsMisnamed, IsFaulty}
use Rattle.document_parts.specs.steps.Tables.{HasKeyed}
use Rattle.document_parts.specs.Members.{Has}
use Rattle.document_parts.specs.Parts.{IsTable, NamesAreIds, NamesAreHex, IsRuleOver}
use Rattle.document_parts.specs.Bodies.{AreRoles, Roles}
use Rattle.document_parts.proofs.Once.{has-once}
use Rattle.document_parts.proofs.PartsOnce.{table-once}
use Rattle.document_parts.specs.declared.documents.ShapeFault.{ShapeFault}
use Rattle.document_parts.proofs.Elements.{in_contains}

pub only_memory : {P Q : Type 0} (e : ShapeFault) → IsMisnamed P e → P → IsMisnamed Q e
only_memory e (inl h) p = inl h
only_memory e (inr h) p = absurd (h.1 p)

name_hex : (table : Table) (id : List ℕ) → NamesAreHex table → IsIn (map (λ e. e.0) table) id → IsHex 64 id
name_hex [] id all h = absurd h
name_hex (e ∷ es) id all (inl h) = subst (IsHex 64) h all.0
name_hex (e ∷ es) id all (inr h) = name_hex es id all.1 h

each_hex : (table : Table) (ids : List (List ℕ)) → NamesAreHex table → AllByRecursion (Contains (map (λ e. e.0) table)) ids → AllByRecursion (IsHex 64) ids
each_hex table [] all known = tt
each_hex table (id ∷ ids) all known = (name_hex table id all (in_contains (map (λ e. e.0) table) id known.0), each_hex table ids all known.1)

pub ids_hex : (table : Table) (rule : RoleRule) → IsRuleOver table rule → NamesAreHex table → AllByRecursion (IsHex 64) rule.keyids
ids_hex table rule over all = each_hex table rule.keyids all over.known

-- the rules of the four roles are over the one table that the object has
pub same_roles : (v : Json) (keys : Table) (k : Table × Roles) → IsProper v → Has v (codes "keys") (λ x. IsTable x keys) → HasKeyed v k
    → Has v (codes "roles") (λ x. AreRoles x keys k.1)
same_roles v keys k p h has =
    let same : k.0 ≡ keys = has-once (codes "keys") IsTable table-once v k.0 keys p has.0 h in
    subst (λ (t : Table). Has v (codes "roles") (λ x. AreRoles x t k.1)) same has.1

-- keys of which a name is no id
pub misnamed_keys : (v : Json) (k : Table × Roles) (e : ShapeFault) → HasKeyed v k → IsMisnamed (NamesAreIds k.0) e → IsFaulty (HasKeyed v) (λ l. NamesAreIds l.0) e
misnamed_keys v k e has (inl h) = inl (inl h)
misnamed_keys v k e has (inr h) = inr (h.0, (k, has, h.1))

pub not_false : (b : Bool) → not b ≡ false → b ≡ true
not_false true h = refl
not_false false h = sym h

-- rules over a table of hex names have hex ids
pub each_ids_hex : {A : Type 0} (rule : A → RoleRule) (table : Table) (xs : List A) → AllByRecursion (λ x. IsRuleOver table (rule x)) xs → NamesAreHex table
    → AllByRecursion (λ x. AllByRecursion (IsHex 64) (rule x).keyids) xs
each_ids_hex rule table [] over all = tt
each_ids_hex rule table (x ∷ xs) over all = (ids_hex table (rule x) over.0 all, each_ids_hex rule table xs over.1 all)

-- what holds of each holds of the one at a place
pub each_at : {A B : Type 0} (f : A → B) (P : B → Type 0) (xs : List A) (n : ℕ) (x : A) → AllByRecursion P (map f xs) → n < length xs → x ≡ get_or xs n x → P (f x)
each_at f P [] n x all below e = absurd (omega (arith, below))
each_at f P (y ∷ ys) zero x all below e = subst (λ z. P (f z)) (sym e) all.0
each_at f P (y ∷ ys) (suc n) x all below e = each_at f P ys n x all.1 (omega (arith, below)) e
