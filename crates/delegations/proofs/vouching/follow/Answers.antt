use Rattle.std.proofs.Common.{◌≡◌, ◌++◌, ◌+◌, false, true, List, [], ◌∷◌, map, Option, Some, true≢false, sym, ap, subst, ◌∙◌, arith, bytes_eq, inl, inr, length, length-append, ⊎_elim, refl, Bor, ℕ}
use Rattle.std.proofs.lemmas.List.{map-append}
use Rattle.std.proofs.lemmas.Slice.Eq.{bytes_eq-Decides}
use Rattle.std.specs.List.{list_any}
use Rattle.keys_roles.specs.Views as keys
use Rattle.document_parts.specs.declared.documents.Delegation.{Delegation as CodeDelegation}
use Rattle.metadata.specs.File.{Names, has_name}
use Rattle.metadata.specs.FileViews.{targets_file}
use Rattle.document_parts.specs.Documents.{Delegations}
use Rattle.document_parts.specs.Views.{delegations_view}
use Rattle.document_parts.specs.declared.documents.Delegations.{Delegations as CodeDelegations}
use Rattle.delegations.specs.Delegation.{Edge, Hops, hops}
use Rattle.delegations.specs.Search.{Good, Shelf, hops_of, whole}
use Rattle.delegations.specs.Views.{edge_view, shelf_view}
use Rattle.delegations.specs.steps.Reaching.{Follows, IsAmong, rest_of, waiting, whole_of}
use Rattle.delegations.specs.declared.frames.Frame.{Frame}
use Rattle.delegations.proofs.FoundOut.{of_none, of_some}
use Rattle.delegations.proofs.GoodChains.{among, among_either, among_last, among_left, by_meeting, leads_nowhere, met_before, opens, one_fewer}
use Rattle.delegations.proofs.GoodVisits.{listed_of}
use Rattle.delegations.proofs.Onward.{hops_of_doc}
use Rattle.delegations.proofs.vouching.follow.Goals as goal

pub returns-then-eq-clause-follows : goal.returns-then-eq-clause-follows
returns-then-eq-clause-follows c hs i state at =
    by_meeting (shelf_view c.args.shelf.now) c.args.now c.args.role.now (targets_file c.args.new.now) (map (λ n. n.now) c.args.met.now.items) hs (waiting c.args.todo.now.items) state i (edge_view c.args.edge) at c.meets_edge.result c.meets_edge.ensures.met
    ((bytes_eq-Decides c.args.edge.role.now c.as_str.result.now).0 (sym c.eq.ensures ∙ c.if-eq.true) ∙ c.as_str.ensures.value)

pub returns-then-is_among-clause-follows : goal.returns-then-is_among-clause-follows
returns-then-is_among-clause-follows c hs i state at =
    let there : has_name (map (λ n. n.now) c.args.met.now.items) c.args.edge.role.now ≡ true =
    sym (among c.args.met.now.items c.args.edge.role.now) ∙ ap (λ (ns : List (Bor (List ℕ))). list_any (λ n. bytes_eq n.now c.args.edge.role.now) ns) (sym c.deref.ensures.value) ∙ sym c.is_among.ensures ∙ c.if-is_among.true in
    met_before (shelf_view c.args.shelf.now) c.args.now c.args.role.now (targets_file c.args.new.now) (map (λ n. n.now) c.args.met.now.items) hs (waiting c.args.todo.now.items) state i (edge_view c.args.edge) at
    (λ same. true≢false (sym ((bytes_eq-Decides c.args.edge.role.now c.as_str.result.now).1 (same ∙ sym c.as_str.ensures.value)) ∙ sym c.eq.ensures ∙ c.if-eq.false)) there

pub returns-in_default-clause-follows : goal.returns-in_default-clause-follows
returns-in_default-clause-follows c hs i state at =
    leads_nowhere (shelf_view c.args.shelf.now) c.args.now c.args.role.now (targets_file c.args.new.now) (map (λ n. n.now) c.args.met.now.items) hs (waiting c.args.todo.now.items) state i (edge_view c.args.edge) at
    (λ same. true≢false (sym ((bytes_eq-Decides c.args.edge.role.now c.as_str.result.now).1 (same ∙ sym c.as_str.ensures.value)) ∙ sym c.eq.ensures ∙ c.if-eq.false))
    (of_none _ c.in_ok-delegations.field-0 c.in_default.is c.in_ok-delegations.ensures.none)

-- what a new frame holds
opened : (o : Option Delegations) (ds : CodeDelegations) (roles : List CodeDelegation) → o ≡ Some (delegations_view ds) → roles ≡ ds.roles.items
    → hops_of (λ d. true) o ≡ rest_of (keys.table_view ds.keys) roles
opened o ds roles is are = rw (is, are) refl

pub returns-clause-follows : goal.returns-clause-follows
returns-clause-follows c hs i state at =
    let V : Shelf = shelf_view c.args.shelf.now in
    let e : Edge = edge_view c.args.edge in
    let met : Names = map (λ n. n.now) c.args.met.now.items in
    let hss : List Hops = waiting c.args.todo.now.items in
    let fresh : has_name met e.role ≡ false =
    sym (among c.args.met.now.items c.args.edge.role.now) ∙ ap (λ (ns : List (Bor (List ℕ))). list_any (λ n. bytes_eq n.now c.args.edge.role.now) ns) (sym c.deref.ensures.value) ∙ sym c.is_among.ensures ∙ c.if-is_among.false in
    let g = of_some (λ ds. (g : Good V e c.args.now) × (g.file.body.delegations ≡ Some (delegations_view ds.now))) c.in_ok-delegations.field-0 c.in-Some.delegations c.in-Some.is c.in_ok-delegations.ensures.some in
    let ds : CodeDelegations = c.in-Some.delegations.now in
    let hops_are : hops (whole V) e.role ≡ rest_of (keys.table_view ds.keys) c.deref-2.result.now =
    hops_of_doc V (λ d. true) e.role g.0.file g.0.there ∙ opened g.0.file.body.delegations ds c.deref-2.result.now g.1 c.deref-2.ensures.value in
    let items : map (λ n. n.now) c.push.new.self.items ≡ met ++ e.role ∷ [] = ap (λ (ns : List (Bor (List ℕ))). map (λ n. n.now) ns) c.in_ok-push.ensures.items ∙ map-append (λ n. n.now) c.args.met.now.items (c.args.edge.role ∷ []) in
    let frames : waiting c.push-2.new.self.items ≡ hss ++ rest_of (keys.table_view ds.keys) c.deref-2.result.now ∷ [] = ap (λ (fs : List Frame). waiting fs) c.in_ok-push-2.ensures.items ∙ map-append whole_of c.args.todo.now.items _ in
    subst (λ (later : Names). Follows V c.args.now c.args.role.now (targets_file c.args.new.now) e hs met hss later (waiting c.push-2.new.self.items) false) (sym items)
    (subst (λ (later : List Hops). Follows V c.args.now c.args.role.now (targets_file c.args.new.now) e hs met hss (met ++ e.role ∷ []) later false) (sym frames)
    (opens V c.args.now c.args.role.now (targets_file c.args.new.now) met hs hss state i e at
    (λ same. true≢false (sym ((bytes_eq-Decides c.args.edge.role.now c.as_str.result.now).1 (same ∙ sym c.as_str.ensures.value)) ∙ sym c.eq.ensures ∙ c.if-eq.false))
    fresh g.0 (hss ++ rest_of (keys.table_view ds.keys) c.deref-2.result.now ∷ []) (λ xs h. among_left xs hss (rest_of (keys.table_view ds.keys) c.deref-2.result.now) h)
    (λ xs h. ⊎_elim (λ l. inl l) (λ r. inr (hops_are ∙ r)) (among_either xs hss (rest_of (keys.table_view ds.keys) c.deref-2.result.now) h))
    (inr (subst (λ xs. IsAmong xs (hss ++ rest_of (keys.table_view ds.keys) c.deref-2.result.now ∷ [])) (sym hops_are) (among_last hss (rest_of (keys.table_view ds.keys) c.deref-2.result.now))))))

pub returns-clause-less : goal.returns-clause-less
returns-clause-less c =
    let V : Shelf = shelf_view c.args.shelf.now in
    let e : Edge = edge_view c.args.edge in
    let met : Names = map (λ n. n.now) c.args.met.now.items in
    let fresh : has_name met e.role ≡ false =
    sym (among c.args.met.now.items c.args.edge.role.now) ∙ ap (λ (ns : List (Bor (List ℕ))). list_any (λ n. bytes_eq n.now c.args.edge.role.now) ns) (sym c.deref.ensures.value) ∙ sym c.is_among.ensures ∙ c.if-is_among.false in
    let items : map (λ n. n.now) c.push.new.self.items ≡ met ++ e.role ∷ [] = ap (λ (ns : List (Bor (List ℕ))). map (λ n. n.now) ns) c.in_ok-push.ensures.items ∙ map-append (λ n. n.now) c.args.met.now.items (c.args.edge.role ∷ []) in
    let g = of_some (λ ds. (g : Good V e c.args.now) × (g.file.body.delegations ≡ Some (delegations_view ds.now))) c.in_ok-delegations.field-0 c.in-Some.delegations c.in-Some.is c.in_ok-delegations.ensures.some in
    let m = listed_of V e c.args.now g.0 in
    let longer : length c.push-2.new.self.items ≡ length c.args.todo.now.items + 1 = ap length c.in_ok-push-2.ensures.items ∙ length-append c.args.todo.now.items _ in
    rw (items, longer) (omega (arith, one_fewer V.listing met e.role m.0 m.1 fresh))
