-- Of which kind a role's documents are, and which rule a document gives a role: a root each of its four roles (TUF 1.0, section 4.3,
-- ROLE), targets metadata each role that they delegate to (section 4.5, DELEGATIONS).
use Rattle.std.specs.Prelude.{ℕ, List, [], ◌∷◌, Option, option_map, codes, find, bytes_eq, if◌then◌else◌}
use Rattle.keys_roles.specs.Plain.{RoleRule, look_up}
use Rattle.document_parts.specs.Documents.{Root, Delegations}
use Rattle.document_parts.specs.declared.documents.Kind.{Kind}
use Rattle.document_parts.specs.declared.documents.Kind.TheVariants as kinds

abbrev pub rules_of_root : Root → List (List ℕ × RoleRule)
rules_of_root r = (codes "root", r.root) ∷ (codes "targets", r.targets) ∷ (codes "snapshot", r.snapshot) ∷ (codes "timestamp", r.timestamp) ∷ []

abbrev pub root_rule : Root → List ℕ → Option RoleRule
root_rule r role = look_up (rules_of_root r) role

-- the rule of the first delegation to the role
abbrev pub delegated_rule : Delegations → List ℕ → Option RoleRule
delegated_rule ds role = option_map (λ d. d.rule) (find (λ d. bytes_eq d.name role) ds.roles)

-- the kind of a role's documents: three roles have a kind of their own, and every other has targets metadata
abbrev pub kind_of_role : List ℕ → Kind
kind_of_role role =
    if bytes_eq role (codes "root") then kinds.Root
    else if bytes_eq role (codes "timestamp") then kinds.Timestamp
    else if bytes_eq role (codes "snapshot") then kinds.Snapshot
    else kinds.Targets
