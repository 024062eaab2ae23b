-- The rules of a root, delegations, references and listings as a file spells them: their ids are texts of any form.
use Rattle.std.specs.Prelude.{ℕ, List, Option, map, option_map}
use Rattle.std.specs.List.{AllByRecursion}
use Rattle.keys_roles.specs.Plain as plain
use Rattle.keys_roles.specs.Views.{table_view, rule_view}
use Rattle.document_parts.specs.Bodies as bodies
use Rattle.document_parts.specs.Documents as documents
use Rattle.document_parts.specs.Parts.{IsRuleOver}
use Rattle.document_parts.specs.Views.{scope_view}
use Rattle.document_parts.specs.declared.keys.SpelledTable.{SpelledTable}
use Rattle.document_parts.specs.steps.Tables.{spelled_rule, spelled_table}
use Rattle.metadata.specs.declared.delegations.SpelledDelegation.{SpelledDelegation}
use Rattle.metadata.specs.declared.delegations.SpelledDelegations.{SpelledDelegations}
use Rattle.metadata.specs.declared.listings.SpelledListing.{SpelledListing}
use Rattle.metadata.specs.declared.references.SpelledReference.{SpelledReference}
use Rattle.metadata.specs.declared.root.SpelledRoles.{SpelledRoles}
use Rattle.metadata.specs.declared.root.Keyed.{Keyed}

abbrev pub spelled_roles : SpelledRoles → bodies.Roles
spelled_roles r = record {
  root = spelled_rule r.root;
  snapshot = spelled_rule r.snapshot;
  targets = spelled_rule r.targets;
  timestamp = spelled_rule r.timestamp;
}

abbrev pub spelled_delegation : SpelledDelegation → documents.Delegation
spelled_delegation d = record { name = d.name; rule = spelled_rule d.rule; terminating = d.terminating; scope = scope_view d.scope }

abbrev pub spelled_list : List SpelledDelegation → List documents.Delegation
spelled_list ds = map spelled_delegation ds

abbrev pub spelled_delegations : SpelledDelegations → documents.Delegations
spelled_delegations d = record { keys = spelled_table d.keys; roles = spelled_list d.roles.items }

abbrev pub names_of : List documents.Delegation → List (List ℕ)
names_of ds = map (λ d. d.name) ds

abbrev pub spelled_reference : SpelledReference → documents.LayoutReference
spelled_reference l = record {
  owners = spelled_rule l.owners;
  keys = spelled_table l.keys;
  links = l.links.items;
  path = l.path;
  product = l.product;
  step = l.step;
}

abbrev pub spelled_listing : SpelledListing → documents.Listing
spelled_listing l = record { path = l.path; len = l.length; digest = l.digest.0; layout = option_map spelled_reference l.layout }

abbrev pub spelled_listings : List SpelledListing → List documents.Listing
spelled_listings ls = map spelled_listing ls

-- the keys and the roles of a root
abbrev pub keyed_view : Keyed → plain.Table × bodies.Roles
keyed_view k =
    (table_view k.keys, record { root = rule_view k.root; snapshot = rule_view k.snapshot; targets = rule_view k.targets; timestamp = rule_view k.timestamp })

abbrev pub plain_root : documents.Profile → ℕ → ℕ → Option (List (List ℕ)) → plain.Table × bodies.Roles → documents.Root
plain_root profile version expires required k = record {
  version = version;
  expires = expires;
  keys = k.0;
  root = k.1.root;
  targets = k.1.targets;
  snapshot = k.1.snapshot;
  timestamp = k.1.timestamp;
  profile = profile;
  required = required;
}

-- each role's rule is one over the table
pub record AreOver (keys : SpelledTable) (roles : SpelledRoles) : Type 0 where
  pub root : IsRuleOver (spelled_table keys) (spelled_rule roles.root)
  pub snapshot : IsRuleOver (spelled_table keys) (spelled_rule roles.snapshot)
  pub targets : IsRuleOver (spelled_table keys) (spelled_rule roles.targets)
  pub timestamp : IsRuleOver (spelled_table keys) (spelled_rule roles.timestamp)

-- each delegation's rule is one over the table
abbrev pub AreAllOver : SpelledDelegations → Type 0
AreAllOver d = AllByRecursion (λ r. IsRuleOver (spelled_table d.keys) r.rule) (spelled_list d.roles.items)
