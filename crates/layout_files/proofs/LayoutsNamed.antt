-- The key table of a layout, and the rules of its steps over it.
use Rattle.std.proofs.Common.{◌≡◌, List, [], ◌∷◌, codes, inl, inr, subst}
use Rattle.std.specs.List.{AllByRecursion}
use Rattle.canonical_json.specs.Json.{Json, Items, no_items, item}
use Rattle.canonical_json.specs.Spelling.{IsProper}
use Rattle.keys_roles.specs.Plain.{Table}
use Rattle.document_parts.specs.Bodies.{IsStep, AreSteps, IsLayout}
use Rattle.document_parts.specs.Documents.{Step, Layout}
use Rattle.document_parts.specs.Members.{Has, ItemsAre}
use Rattle.document_parts.specs.Parts.{IsTable, NamesAreIds, IsRuleOver}
use Rattle.document_parts.specs.declared.documents.ShapeFault.{ShapeFault}
use Rattle.document_parts.specs.steps.Faults.{IsMisnamed, IsFaulty}
use Rattle.document_parts.proofs.Once.{has-once}
use Rattle.document_parts.proofs.PartsOnce.{table-once}

-- each rule of the steps is one over the table
each_over : (keys : Table) (vs : Items) (ss : List Step) → ItemsAre (IsStep keys) vs ss → AllByRecursion (λ s. IsRuleOver keys s.rule) ss
each_over keys no_items [] h = tt
each_over keys no_items (s ∷ ss) h = absurd h
each_over keys (item v vs) [] h = absurd h
each_over keys (item v vs) (s ∷ ss) h = (h.0.1.2, each_over keys vs ss h.1)

pub steps_over : (v : Json) (keys : Table) (ss : List Step) → Has v (codes "steps") (λ x. AreSteps keys x ss) → AllByRecursion (λ s. IsRuleOver keys s.rule) ss
steps_over v keys ss h = each_over keys h.2.0.0 ss h.2.0.2

-- the steps of a layout are over the one table that it has
pub same_steps : (v : Json) (keys : Table) (l : Layout) → IsProper v → Has v (codes "keys") (λ x. IsTable x keys) → IsLayout v l
    → Has v (codes "steps") (λ x. AreSteps keys x l.steps)
same_steps v keys l p h is =
    let same : l.keys ≡ keys = has-once (codes "keys") IsTable table-once v l.keys keys p is.keys h in
    subst (λ (t : Table). Has v (codes "steps") (λ x. AreSteps t x l.steps)) same is.steps

-- a layout whose table has a name that is no id
pub misnamed_layout : (v : Json) (l : Layout) (e : ShapeFault) → IsLayout v l → IsMisnamed (NamesAreIds l.keys) e → IsFaulty (IsLayout v) (λ m. NamesAreIds m.keys) e
misnamed_layout v l e is (inl h) = inl (inl h)
misnamed_layout v l e is (inr h) = inr (h.0, (l, is, h.1))
