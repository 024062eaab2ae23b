-- The signed part of a layout is one layout, and that of a link one link.
use Rattle.std.proofs.Common.{◌≡◌, ℕ, List, codes, sym, subst, ◌∙◌}
use Rattle.keys_roles.specs.Plain.{Table, RoleRule, Signature}
use Rattle.path_patterns.specs.Grammar.{IsName}
use Rattle.document_parts.specs.Bodies.{IsTextOf, IsListedRule, IsRuleList, IsStep, AreSteps, IsLayout, IsArtifact, AreArtifacts, IsLink}
use Rattle.document_parts.specs.Documents.{Step, Layout}
use Rattle.document_parts.specs.Links.{Artifacts, Link}
use Rattle.document_parts.specs.Members.{Has}
use Rattle.document_parts.specs.Parts.{IsTable}
use Rattle.document_parts.specs.Rules.{ArtifactRule}
use Rattle.document_parts.proofs.Congruence.{same3, same4}
use Rattle.document_parts.proofs.DelegationsOnce.{text-of-once}
use Rattle.document_parts.proofs.Once.{IsOnce, IsOnceNamed, has-once, array-once, object-once}
use Rattle.document_parts.proofs.PartsOnce.{expires-once, hashes-once, table-once, rule-once, pair-is}
use Rattle.layout_files.proofs.RuleWords.{texts-once, words-once}

-- ---- layouts

listed-rule-once : IsOnce IsListedRule
listed-rule-once v a b p h k =
    let words = texts-once v h.0 k.0 h.1 k.1 in
    words-once a b (sym h.2.1 ∙ (words ∙ k.2.1))

rule-list-once : IsOnce IsRuleList
rule-list-once v a b p h k = array-once IsListedRule listed-rule-once v a b p h.0 k.0

pub step-once : (keys : Table) → IsOnce (IsStep keys)
step-once keys v a b p h k =
    same4 make
    (has-once (codes "name") (IsTextOf IsName) (text-of-once IsName) v a.name b.name p h.0 k.0)
    (rule-once (codes "pubkeys") v a.rule b.rule p (keys, h.1) (keys, k.1))
    (has-once (codes "expected_materials") IsRuleList rule-list-once v a.materials b.materials p h.2 k.2)
    (has-once (codes "expected_products") IsRuleList rule-list-once v a.products b.products p h.3 k.3)
  where
    make : List ℕ → RoleRule → List ArtifactRule → List ArtifactRule → Step
    make name rule materials products = record { name = name; rule = rule; materials = materials; products = products }

steps-once : (keys : Table) → IsOnce (AreSteps keys)
steps-once keys v a b p h k = array-once (IsStep keys) (step-once keys) v a b p h.0 k.0

pub layout-once : IsOnce IsLayout
layout-once v a b p h k =
    let tables : a.keys ≡ b.keys = has-once (codes "keys") IsTable table-once v a.keys b.keys p h.keys k.keys in
    let other = subst (λ (t : Table). Has v (codes "steps") (λ x. AreSteps t x b.steps)) (sym tables) k.steps in
    same3 make
    (expires-once v a.expires b.expires p h.expires k.expires)
    tables
    (has-once (codes "steps") (AreSteps a.keys) (steps-once a.keys) v a.steps b.steps p h.steps other)
  where
    make : ℕ → Table → List Step → Layout
    make expires keys steps = record { expires = expires; keys = keys; steps = steps }

-- ---- links

artifact-once : IsOnceNamed IsArtifact
artifact-once n v a b p h k = pair-is a b (sym h.0 ∙ k.0) (hashes-once v a.1 b.1 p h.2 k.2)

artifacts-once : IsOnce AreArtifacts
artifacts-once = object-once IsArtifact artifact-once

pub link-once : (es : List Signature) → IsOnce (IsLink es)
link-once es v a b p h k =
    same3 make
    (has-once (codes "name") (IsTextOf IsName) (text-of-once IsName) v a.name b.name p h.name k.name)
    (has-once (codes "materials") AreArtifacts artifacts-once v a.materials b.materials p h.materials k.materials)
    (has-once (codes "products") AreArtifacts artifacts-once v a.products b.products p h.products k.products)
  where
    make : List ℕ → Artifacts → Artifacts → Link
    make name materials products = record { name = name; materials = materials; products = products }
