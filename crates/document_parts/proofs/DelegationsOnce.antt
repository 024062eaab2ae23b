-- An object has one delegation, and one list of them with its keys.
use Rattle.std.proofs.Common.{◌≡◌, ℕ, List, Bool, codes, ap, sym, subst, ◌∙◌}
use Rattle.canonical_json.specs.Json.{boolean}
use Rattle.keys_roles.specs.Plain.{Table, RoleRule}
use Rattle.path_patterns.specs.Grammar.{IsPattern, IsHashPrefix}
use Rattle.document_parts.specs.Documents.{Scope, patterns, prefixes, Delegation, Delegations}
use Rattle.document_parts.specs.Bodies.{IsTextOf, AreTextsOf, HasScope, IsDelegable, IsDelegation, AreDelegations, HasDelegations}
use Rattle.document_parts.specs.Members.{Has}
use Rattle.document_parts.specs.Parts.{IsTable}
use Rattle.document_parts.proofs.Congruence.{same2, same4}
use Rattle.document_parts.proofs.Once.{IsOnce, has-once, array-once, text-once}
use Rattle.document_parts.proofs.PartsOnce.{table-once, rule-once}

pub text-of-once : (Grammar : List ℕ → Type 0) → IsOnce (IsTextOf Grammar)
text-of-once Grammar v a b p h k = text-once v a b p h.0 k.0

pub texts-of-once : (Grammar : List ℕ → Type 0) → IsOnce (AreTextsOf Grammar)
texts-of-once Grammar v a b p h k = array-once (IsTextOf Grammar) (text-of-once Grammar) v a b p h.0 k.0

bool-once : IsOnce (λ x b. x ≡ boolean b)
bool-once v a b p h k =
    let both : boolean a ≡ boolean b = sym h ∙ k in
    cc

scope-once : IsOnce HasScope
scope-once v (patterns a) (patterns b) p h k = ap patterns (has-once (codes "paths") (AreTextsOf IsPattern) (texts-of-once IsPattern) v a b p h.0 k.0)
scope-once v (patterns a) (prefixes b) p h k = absurd (h.1 k.0.0 k.0.1)
scope-once v (prefixes a) (patterns b) p h k = absurd (h.1 k.0.0 k.0.1)
scope-once v (prefixes a) (prefixes b) p h k =
    ap prefixes (has-once (codes "path_hash_prefixes") (AreTextsOf IsHashPrefix) (texts-of-once IsHashPrefix) v a b p h.0 k.0)

pub delegation-once : (keys : Table) → IsOnce (IsDelegation keys)
delegation-once keys v a b p h k =
    same4 make
    (has-once (codes "name") (IsTextOf IsDelegable) (text-of-once IsDelegable) v a.name b.name p h.0 k.0)
    (rule-once (codes "keyids") v a.rule b.rule p (keys, h.1) (keys, k.1))
    (has-once (codes "terminating") (λ x t. x ≡ boolean t) bool-once v a.terminating b.terminating p h.2 k.2)
    (scope-once v a.scope b.scope p h.3 k.3)
  where
    make : List ℕ → RoleRule → Bool → Scope → Delegation
    make name rule terminating scope = record { name = name; rule = rule; terminating = terminating; scope = scope }

list-once : (keys : Table) → IsOnce (AreDelegations keys)
list-once keys v a b p h k = array-once (IsDelegation keys) (delegation-once keys) v a b p h.0 k.0

pub delegations-once : IsOnce HasDelegations
delegations-once v a b p h k =
    let tables : a.keys ≡ b.keys = has-once (codes "keys") IsTable table-once v a.keys b.keys p h.0 k.0 in
    let other = subst (λ (t : Table). Has v (codes "roles") (λ x. AreDelegations t x b.roles)) (sym tables) k.1 in
    same2 make tables (has-once (codes "roles") (AreDelegations a.keys) (list-once a.keys) v a.roles b.roles p h.1 other)
  where
    make : Table → List Delegation → Delegations
    make keys roles = record { keys = keys; roles = roles }
