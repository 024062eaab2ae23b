-- The rules of a draft of a root, step by step.
use Rattle.std.proofs.Common.{◌≡◌, ◌≢◌, inl, inr, ℕ, true, List, [], ◌∷◌, Option, codes, get_or, ap, arith}
use Rattle.canonical_json.specs.Json.{Json, boolean, HasMember}
use Rattle.document_parts.specs.declared.documents.Kind.TheVariants as kinds
use Rattle.drafting.specs.Members.{IsNoneOf, AlikeBut, IsObjectAt, Puts, PutsAll}
use Rattle.drafting.specs.Drafts.{File, Follows, IsBase, IsNext}
use Rattle.drafting.specs.Roots.{DraftsRoot, PutsTable, Rules, key_rows, name_rows, role_name, root_names, rule_rows}
use Rattle.drafting.specs.Targets.{IsThere}
use Rattle.drafting.specs.declared.faults.TopRole.{TopRole}
use Rattle.drafting.specs.declared.faults.TopRole.TheVariants as top
use Rattle.drafting.specs.steps.Rules.{PutsOne, PutsRules}
use Rattle.drafting.specs.declared.terms.Terms.{Terms}
use Rattle.drafting.proofs.Alike.{other_head}
use Rattle.drafting.proofs.Parts.{drafts_on}

pub differ : (a b : List ℕ) → (get_or a 0 0 ≡ get_or b 0 0 → ⊥) → a ≢ b
differ a b apart same = apart (ap (λ (l : List ℕ). get_or l 0 0) same)

pub object_alike : (names : List (List ℕ)) (a b : Json) (name : List ℕ) (m : Json) → AlikeBut names a b → IsNoneOf names name → IsObjectAt b name m → IsObjectAt a name m
object_alike names a b name m alike other (inl h) = inl (alike.no_more name m other h)
object_alike names a b name m alike other (inr (e, inl none)) = inr (e, inl (λ y h. none y (alike.kept name y other h)))
object_alike names a b name m alike other (inr (e, inr (y, h, apart))) = inr (e, inr (y, alike.no_more name y other h, apart))

pub roles_keys : codes "roles" ≢ codes "keys"
roles_keys = differ (codes "roles") (codes "keys") (λ (e : 114 ≡ 107). omega (arith, e))

roles_names : codes "roles" ≢ codes "names"
roles_names = differ (codes "roles") (codes "names") (λ (e : 114 ≡ 110). omega (arith, e))

keys_names : codes "keys" ≢ codes "names"
keys_names = differ (codes "keys") (codes "names") (λ (e : 107 ≡ 110). omega (arith, e))

names_keys : codes "names" ≢ codes "keys"
names_keys = differ (codes "names") (codes "keys") (λ (e : 110 ≡ 107). omega (arith, e))

last_roles : codes "consistent_snapshot" ≢ codes "roles"
last_roles = differ (codes "consistent_snapshot") (codes "roles") (λ (e : 99 ≡ 114). omega (arith, e))

last_keys : codes "consistent_snapshot" ≢ codes "keys"
last_keys = differ (codes "consistent_snapshot") (codes "keys") (λ (e : 99 ≡ 107). omega (arith, e))

last_names : codes "consistent_snapshot" ≢ codes "names"
last_names = differ (codes "consistent_snapshot") (codes "names") (λ (e : 99 ≡ 110). omega (arith, e))

pub rules_put : (rules : Rules) (a b c d e f old roles : Json) → IsObjectAt a (codes "roles") old → AlikeBut (codes "roles" ∷ []) a b → PutsAll (rule_rows rules) old roles
    → ((role : TopRole) → IsThere roles (role_name role))
    → PutsOne (codes "keys") (key_rows rules) roles b c → PutsOne (codes "names") (name_rows rules) roles c d → Puts (codes "roles") roles d e
    → Puts (codes "consistent_snapshot") (boolean true) e f → PutsRules rules a f
rules_put rules a b c d e f old roles was first puts all keys names put last = record {
  changes = record {
    old = old;
    roles = roles;
    was = was;
    has = last.others.kept (codes "roles") roles (last_roles, tt) put.has;
    puts = puts;
    all = all;
    keys = record {
      old = keys.table.old;
      new = keys.table.new;
      was = object_alike (codes "roles" ∷ []) a b (codes "keys") keys.table.old first (roles_keys, tt) keys.table.was;
      has = last.others.kept (codes "keys") keys.table.new (last_keys, tt) (put.others.kept (codes "keys") keys.table.new (roles_keys, tt) (names.others.kept (codes "keys") keys.table.new (names_keys, tt) keys.table.has));
      table = keys.table.table;
    };
    names = record {
      old = names.table.old;
      new = names.table.new;
      was = object_alike (codes "roles" ∷ []) a b (codes "names") names.table.old first (roles_names, tt) (object_alike (codes "keys" ∷ []) b c (codes "names") names.table.old keys.others (keys_names, tt) names.table.was);
      has = last.others.kept (codes "names") names.table.new (last_names, tt) (put.others.kept (codes "names") names.table.new (roles_names, tt) names.table.has);
      table = names.table.table;
    };
    consistent = last.has;
  };
  others = record {
    kept = λ n x other h.
        last.others.kept n x (other.1.1.1.0, tt) (put.others.kept n x (other.0, tt) (names.others.kept n x (other.1.1.0, tt) (keys.others.kept n x (other.1.0, tt) (first.kept n x (other.0, tt) h))));
    no_more = λ n x other h.
        first.no_more n x (other.0, tt) (keys.others.no_more n x (other.1.0, tt) (names.others.no_more n x (other.1.1.0, tt) (put.others.no_more n x (other.0, tt) (last.others.no_more n x (other.1.1.1.0, tt) h))));
  };
}

stays : (version : ℕ) (terms : Terms) (b c : Json) (name : List ℕ) (x : Json) → IsNoneOf (codes "version" ∷ codes "expires" ∷ codes "term" ∷ []) name → Follows version terms [] b c → HasMember b name x → HasMember c name x
stays version terms b c name x other f h = f.others.kept name x other h

pub table_stays : (version : ℕ) (terms : Terms) (a b c : Json) (name : List ℕ) (rows : List (List ℕ × Json)) (roles : Json) → IsNoneOf (codes "version" ∷ codes "expires" ∷ codes "term" ∷ []) name
    → Follows version terms [] b c → PutsTable name rows roles a b → PutsTable name rows roles a c
table_stays version terms a b c name rows roles other f t = record { old = t.old; new = t.new; was = t.was; has = f.others.kept name t.new other t.has; table = t.table }

other_roles : IsNoneOf (codes "version" ∷ codes "expires" ∷ codes "term" ∷ []) (codes "roles")
other_roles = other_head (codes "roles") (λ (e : 118 ≡ 114). omega (arith, e)) (λ (e : 101 ≡ 114). omega (arith, e)) (λ (e : 116 ≡ 114). omega (arith, e))

other_keys : IsNoneOf (codes "version" ∷ codes "expires" ∷ codes "term" ∷ []) (codes "keys")
other_keys = other_head (codes "keys") (λ (e : 118 ≡ 107). omega (arith, e)) (λ (e : 101 ≡ 107). omega (arith, e)) (λ (e : 116 ≡ 107). omega (arith, e))

pub other_names : IsNoneOf (codes "version" ∷ codes "expires" ∷ codes "term" ∷ []) (codes "names")
other_names = other_head (codes "names") (λ (e : 118 ≡ 110). omega (arith, e)) (λ (e : 101 ≡ 110). omega (arith, e)) (λ (e : 116 ≡ 110). omega (arith, e))

other_last : IsNoneOf (codes "version" ∷ codes "expires" ∷ codes "term" ∷ []) (codes "consistent_snapshot")
other_last = other_head (codes "consistent_snapshot") (λ (e : 118 ≡ 99). omega (arith, e)) (λ (e : 101 ≡ 99). omega (arith, e)) (λ (e : 116 ≡ 99). omega (arith, e))

pub root_part : (held begun : Option File) (terms : Terms) (rules : Rules) (version : ℕ) (a b c : Json) → IsNext kinds.Root held version → IsBase kinds.Root held begun a
    → PutsRules rules a b → Follows version terms [] b c → DraftsRoot held begun terms rules c
root_part held begun terms rules version a b c next base put follows = record {
  before = a;
  drafts = drafts_on kinds.Root held begun terms root_names version a b c next base put.others follows;
  changes = record {
    old = put.changes.old;
    roles = put.changes.roles;
    was = put.changes.was;
    has = stays version terms b c (codes "roles") put.changes.roles other_roles follows put.changes.has;
    puts = put.changes.puts;
    all = put.changes.all;
    keys = table_stays version terms a b c (codes "keys") (key_rows rules) put.changes.roles other_keys follows put.changes.keys;
    names = table_stays version terms a b c (codes "names") (name_rows rules) put.changes.roles other_names follows put.changes.names;
    consistent = stays version terms b c (codes "consistent_snapshot") (boolean true) other_last follows put.changes.consistent;
  };
}

pub each_there : (roles : Json) → IsThere roles (role_name top.Root) → IsThere roles (role_name top.Targets) → IsThere roles (role_name top.Snapshot)
    → IsThere roles (role_name top.Timestamp) → (role : TopRole) → IsThere roles (role_name role)
each_there roles a b c d top.Root = a
each_there roles a b c d top.Targets = b
each_there roles a b c d top.Snapshot = c
each_there roles a b c d top.Timestamp = d
