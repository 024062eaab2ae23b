use Rattle.std.proofs.Common.{◌≡◌, ◌++◌, length, arith, ℕ, Bor, List, map, true, Option, Some, refl, inr, ⊎_elim, [], ◌∷◌, true≢false, sym, ap, subst, ◌∙◌, inl}
use Rattle.std.proofs.lemmas.Slice.Eq.{bytes_eq-Decides}
use Rattle.std.proofs.lemmas.List.{map-append}
use Rattle.keys_roles.specs.Views as keys
use Rattle.metadata.specs.File.{Names}
use Rattle.metadata.specs.FileViews.{targets_file}
use Rattle.document_parts.specs.declared.documents.Delegation.{Delegation as CodeDelegation}
use Rattle.delegations.specs.declared.frames.Frame.{Frame}
use Rattle.delegations.specs.steps.Reaching.{IsOpen, rest_of, waiting, whole_of}
use Rattle.document_parts.specs.Documents.{Delegations}
use Rattle.document_parts.specs.Views.{delegations_view}
use Rattle.document_parts.specs.declared.documents.Delegations.{Delegations as CodeDelegations}
use Rattle.delegations.specs.Delegation.{Edge, Hops, hops}
use Rattle.delegations.specs.Search.{Shelf, Good, MeetsEdge, hops_of, whole}
use Rattle.delegations.specs.Views.{edge_view, shelf_view}
use Rattle.delegations.proofs.FoundOut.{of_none, of_some}
use Rattle.delegations.proofs.GoodChains.{none_open, none_vouches, popped, top_open, top_vouches, vouches_top}
use Rattle.delegations.proofs.Onward.{hops_of_doc}
use Rattle.delegations.proofs.vouching.vouched.Goals as goal

-- what a new frame holds
opened : (o : Option Delegations) (ds : CodeDelegations) (roles : List CodeDelegation) → o ≡ Some (delegations_view ds) → roles ≡ ds.roles.items
    → hops_of (λ d. true) o ≡ rest_of (keys.table_view ds.keys) roles
opened o ds roles is are = rw (is, are) refl

pub returns-then-eq-clause-vouched : goal.returns-then-eq-clause-vouched
returns-then-eq-clause-vouched c =
    let V : Shelf = shelf_view c.args.shelf.now in
    let same : V.top.role ≡ c.args.role.now =
    ap (λ (e : Edge). e.role) (sym c.top-top.ensures) ∙ (bytes_eq-Decides c.top-top.result.role.now c.as_str.result.now).0 (sym c.eq.ensures ∙ c.if-eq.true) ∙ c.as_str.ensures.value in (
      λ t. top_vouches V c.args.now c.args.role.now (targets_file c.args.document.now) same (subst (λ (e : Edge). MeetsEdge V e (targets_file c.args.document.now)) c.top-top.ensures (c.meets_edge.ensures.met.0 t)),
      λ v. c.meets_edge.ensures.met.1 (subst (λ (e : Edge). MeetsEdge V e (targets_file c.args.document.now)) (sym c.top-top.ensures) (vouches_top V c.args.now c.args.role.now (targets_file c.args.document.now) same v)),
    )

pub returns-in_default-clause-vouched : goal.returns-in_default-clause-vouched
returns-in_default-clause-vouched c =
    let V : Shelf = shelf_view c.args.shelf.now in
    let bad : Good V V.top c.args.now → hops (whole V) V.top.role ≡ [] =
    subst (λ (e : Edge). Good V e c.args.now → hops (whole V) e.role ≡ []) c.top-top.ensures (of_none _ c.in_ok-delegations.field-0 c.in_default.is c.in_ok-delegations.ensures.none) in (
      λ t. absurd (true≢false (sym t)),
      λ v. absurd (none_vouches V c.args.now c.args.role.now (targets_file c.args.document.now) [] (none_open V c.args.now c.args.role.now (targets_file c.args.document.now) bad)
          (λ same. true≢false (sym ((bytes_eq-Decides c.top-top.result.role.now c.as_str.result.now).1 (ap (λ (e : Edge). e.role) c.top-top.ensures ∙ same ∙ sym c.as_str.ensures.value)) ∙ sym c.eq.ensures ∙ c.if-eq.false)) v),
    )

none_left : (fs : List Frame) → length fs ≡ 0 → fs ≡ []
none_left [] h = refl
none_left (f ∷ fs) h = absurd (omega (arith, h))

pub frames-init : goal.frames-init
frames-init c =
    let V : Shelf = shelf_view c.args.shelf.now in
    let other : V.top.role ≡ c.args.role.now → ⊥ =
    λ same. true≢false (sym ((bytes_eq-Decides c.top-top.result.role.now c.as_str.result.now).1 (ap (λ (e : Edge). e.role) c.top-top.ensures ∙ same ∙ sym c.as_str.ensures.value)) ∙ sym c.eq.ensures ∙ c.if-eq.false) in
    let g = of_some (λ ds. (g : Good V (edge_view c.top-top.result) c.args.now) × (g.file.body.delegations ≡ Some (delegations_view ds.now))) c.in_ok-delegations.field-0 c.in-Some.delegations c.in-Some.is c.in_ok-delegations.ensures.some in
    let good : Good V V.top c.args.now = subst (λ (e : Edge). Good V e c.args.now) c.top-top.ensures g.0 in
    let ds : CodeDelegations = c.in-Some.delegations.now in
    let hops_are : hops (whole V) V.top.role ≡ rest_of (keys.table_view ds.keys) c.deref.result.now =
    ap (λ (e : Edge). hops (whole V) e.role) (sym c.top-top.ensures) ∙ hops_of_doc V (λ d. true) c.top-top.result.role.now g.0.file g.0.there
    ∙ opened g.0.file.body.delegations ds c.deref.result.now g.1 c.deref.ensures.value in
    let items : map (λ n. n.now) c.push.new.self.items ≡ V.top.role ∷ [] =
    ap (λ (ns : List (Bor (List ℕ))). map (λ n. n.now) ns) (c.in_ok-push.ensures.items ∙ ap (λ (ns : List (Bor (List ℕ))). ns ++ c.top-top.result.role ∷ []) c.new-met.ensures.items) ∙ ap (λ (e : Edge). e.role ∷ []) c.top-top.ensures in
    let frames : waiting c.push-2.new.self.items ≡ rest_of (keys.table_view ds.keys) c.deref.result.now ∷ [] =
    ap (λ (fs : List Frame). waiting fs) c.in_ok-push-2.ensures.items ∙ map-append whole_of c.new-todo.result.items _
    ∙ ap (λ (fs : List Frame). waiting fs ++ rest_of (keys.table_view ds.keys) c.deref.result.now ∷ []) c.new-todo.ensures.items in
    let start : IsOpen V c.args.now c.args.role.now (targets_file c.args.document.now) (map (λ n. n.now) c.push.new.self.items) (waiting c.push-2.new.self.items) =
    subst (λ (met : Names). IsOpen V c.args.now c.args.role.now (targets_file c.args.document.now) met (waiting c.push-2.new.self.items)) (sym items)
    (subst (λ (hss : List Hops). IsOpen V c.args.now c.args.role.now (targets_file c.args.document.now) (V.top.role ∷ []) hss) (sym frames)
    (top_open V c.args.now c.args.role.now (targets_file c.args.document.now) good other (rest_of (keys.table_view ds.keys) c.deref.result.now ∷ []) (inr (inl (sym hops_are)))
    (λ hs h. ⊎_elim (λ l. hops_are ∙ l) (λ r. absurd r) h))) in
    record {
      waits = start;
      known = c.in_ok-delegations.ensures.known;
    }

pub expand-requires-clause-waits : goal.expand-requires-clause-waits
expand-requires-clause-waits c =
    let V : Shelf = shelf_view c.args.shelf.now in
    let items : waiting c.frames.todo.items ≡ waiting c.pop.new.self.items ++ whole_of c.in-Some-pop.frame ∷ [] = ap (λ (fs : List Frame). waiting fs) c.in-Some-pop.ensures.items ∙ map-append whole_of c.pop.new.self.items (c.in-Some-pop.frame ∷ []) in
    popped V c.args.now c.args.role.now (targets_file c.args.document.now) (map (λ n. n.now) c.frames.met.items) (waiting c.pop.new.self.items) (whole_of c.in-Some-pop.frame)
    (subst (λ (hss : List Hops). IsOpen V c.args.now c.args.role.now (targets_file c.args.document.now) (map (λ n. n.now) c.frames.met.items) hss) items c.frames.invariant.waits)

pub returns-clause-vouched : goal.returns-clause-vouched
returns-clause-vouched c =
    let V : Shelf = shelf_view c.args.shelf.now in
    let other : V.top.role ≡ c.args.role.now → ⊥ =
    λ same. true≢false (sym ((bytes_eq-Decides c.top-top.result.role.now c.as_str.result.now).1 (ap (λ (e : Edge). e.role) c.top-top.ensures ∙ same ∙ sym c.as_str.ensures.value)) ∙ sym c.eq.ensures ∙ c.if-eq.false) in
    let none : c.frames.todo.items ≡ [] = none_left c.frames.todo.items (let none = c.in_default-pop.ensures.cases.0 in let len = c.frames.todo.ok in omega (arith, none, len)) in (
      λ t. absurd (true≢false (sym t)),
      λ v. absurd (none_vouches V c.args.now c.args.role.now (targets_file c.args.document.now) (map (λ n. n.now) c.frames.met.items)
          (subst (λ (fs : List Frame). IsOpen V c.args.now c.args.role.now (targets_file c.args.document.now) (map (λ n. n.now) c.frames.met.items) (waiting fs)) none c.frames.invariant.waits) other v),
    )
