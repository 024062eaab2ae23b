-- What the code's documents stand for.
use Rattle.std.specs.Prelude.{map, option_map, string_bytes}
use Rattle.keys_roles.specs.Views.{table_view, rule_view as role_view, entries_view}
use Rattle.document_parts.specs.Documents as plain
use Rattle.document_parts.specs.RuleViews.{rule_view, link_view}
use Rattle.document_parts.specs.declared.documents.Meta.{Meta}
use Rattle.document_parts.specs.declared.documents.Profile.{Profile}
use Rattle.document_parts.specs.declared.documents.Profile.TheVariants as profiles
use Rattle.document_parts.specs.declared.documents.Root.{Root}
use Rattle.document_parts.specs.declared.documents.Timestamp.{Timestamp}
use Rattle.document_parts.specs.declared.documents.Snapshot.{Snapshot}
use Rattle.document_parts.specs.declared.documents.LayoutReference.{LayoutReference}
use Rattle.document_parts.specs.declared.documents.Listing.{Listing}
use Rattle.document_parts.specs.declared.documents.Delegation.{Delegation}
use Rattle.document_parts.specs.declared.documents.Delegations.{Delegations}
use Rattle.document_parts.specs.declared.documents.Scope.{Scope}
use Rattle.document_parts.specs.declared.documents.Scope.TheVariants as scopes
use Rattle.document_parts.specs.declared.documents.Targets.{Targets}
use Rattle.document_parts.specs.declared.documents.Step.{Step}
use Rattle.document_parts.specs.declared.documents.Layout.{Layout}
use Rattle.document_parts.specs.declared.documents.Body.{Body}
use Rattle.document_parts.specs.declared.documents.Body.TheVariants as bodies
use Rattle.document_parts.specs.declared.documents.Document.{Document}

abbrev pub meta_view : Meta → plain.MetaFile
meta_view m = record { version = m.version; len = m.length; digest = option_map (λ d. d.0) m.digest }

abbrev pub profile_view : Profile → plain.Profile
profile_view profiles.First = plain.first_profile
profile_view profiles.Second = plain.second_profile

abbrev pub root_view : Root → plain.Root
root_view r = record {
  version = r.version;
  expires = r.expires;
  keys = table_view r.keys;
  root = role_view r.root;
  targets = role_view r.targets;
  snapshot = role_view r.snapshot;
  timestamp = role_view r.timestamp;
  profile = profile_view r.profile;
  required = option_map (λ ps. ps.items) r.required;
}

abbrev pub timestamp_view : Timestamp → plain.Timestamp
timestamp_view t = record { version = t.version; expires = t.expires; snapshot = meta_view t.snapshot }

abbrev pub snapshot_view : Snapshot → plain.Snapshot
snapshot_view s = record { version = s.version; expires = s.expires; meta = map (λ e. (e.0, meta_view e.1)) s.meta.items }

abbrev pub scope_view : Scope → plain.Scope
scope_view (scopes.Patterns ps) = plain.patterns ps.items
scope_view (scopes.Prefixes ps) = plain.prefixes (map string_bytes ps.items)

abbrev pub delegation_view : Delegation → plain.Delegation
delegation_view d = record { name = d.name; rule = role_view d.rule; terminating = d.terminating; scope = scope_view d.scope }

abbrev pub delegations_view : Delegations → plain.Delegations
delegations_view d = record { keys = table_view d.keys; roles = map delegation_view d.roles.items }

abbrev pub reference_view : LayoutReference → plain.LayoutReference
reference_view l = record { owners = role_view l.owners; keys = table_view l.keys; links = l.links.items; path = l.path; product = l.product; step = l.step }

abbrev pub listing_view : Listing → plain.Listing
listing_view l = record { path = l.path; len = l.length; digest = l.digest.0; layout = option_map reference_view l.layout }

abbrev pub targets_view : Targets → plain.Targets
targets_view t = record { version = t.version; expires = t.expires; targets = map listing_view t.targets.items; delegations = option_map delegations_view t.delegations }

abbrev pub step_view : Step → plain.Step
step_view s = record { name = s.name; rule = role_view s.rule; materials = map rule_view s.materials.items; products = map rule_view s.products.items }

abbrev pub layout_view : Layout → plain.Layout
layout_view l = record { expires = l.expires; keys = table_view l.keys; steps = map step_view l.steps.items }

abbrev pub body_view : Body → plain.Body
body_view (bodies.Root r) = plain.root (root_view r)
body_view (bodies.Timestamp t) = plain.timestamp (timestamp_view t)
body_view (bodies.Snapshot s) = plain.snapshot (snapshot_view s)
body_view (bodies.Targets t) = plain.targets (targets_view t)
body_view (bodies.Layout l) = plain.layout (layout_view l)
body_view (bodies.Link l) = plain.link (link_view l)

abbrev pub document_view : Document → plain.Document
document_view d = record { entries = entries_view d.signatures.items; signed = d.signed.now; body = body_view d.body }
