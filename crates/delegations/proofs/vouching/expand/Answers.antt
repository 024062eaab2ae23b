use Rattle.std.proofs.Common.{◌≡◌, List, [], ◌∷◌, map, Some, Bool, length, refl, ap, sym, subst, arith}
use Rattle.keys_roles.specs.Plain.{Table}
use Rattle.keys_roles.specs.Views as keys
use Rattle.keys_roles.specs.Views.{rule_view}
use Rattle.document_parts.specs.Documents as plain
use Rattle.metadata.specs.File.{Name, Names, File}
use Rattle.metadata.specs.FileViews.{targets_file}
use Rattle.document_parts.specs.Views.{delegation_view}
use Rattle.document_parts.specs.declared.documents.Delegation.{Delegation as CodeDelegation}
use Rattle.delegations.specs.Delegation.{Edge, Hops}
use Rattle.delegations.specs.Search.{Shelf, edge_of}
use Rattle.delegations.specs.Views.{shelf_view}
use Rattle.delegations.specs.steps.Reaching.{Follows, IsLooking, rest_of, waiting, whole_of}
use Rattle.delegations.proofs.GoodChains.{looks_on, looked_at, follows_next}
use Rattle.delegations.proofs.vouching.expand.Goals as goal

none_left : (xs : List CodeDelegation) → length xs ≡ 0 → xs ≡ []
none_left [] h = refl
none_left (x ∷ xs) h = absurd (omega (arith, h))

pub returns-then-branch-clause-closes : goal.returns-then-branch-clause-closes
returns-then-branch-clause-closes c =
    let V : Shelf = shelf_view c.args.shelf.now in
    let new : File plain.Targets = targets_file c.args.new.now in
    let K : Table = keys.table_view c.args.frame.keys.now in
    let d : CodeDelegation = c.in-Some.delegation.now in
    let coded : Edge = record { role = c.as_str.result.now; terminating = d.terminating; rule = rule_view d.rule; table = K } in
    let met : Names = map (λ n. n.now) c.roles.met.items in
    let hss : List Hops = waiting c.roles.todo.items in
    let named : edge_of K (delegation_view d) ≡ coded = ap (λ (r : Name). record { role = r; terminating = d.terminating; rule = rule_view d.rule; table = K }) (sym c.as_str.ensures.value) in
    let looking : IsLooking V c.args.now c.args.role.now new met hss (whole_of c.args.frame) (Some coded ∷ rest_of K c.in-Some.later.now) =
    subst (λ (x : Edge). IsLooking V c.args.now c.args.role.now new met hss (whole_of c.args.frame) (Some x ∷ rest_of K c.in-Some.later.now)) named
    (subst (λ (ds : List CodeDelegation). IsLooking V c.args.now c.args.role.now new met hss (whole_of c.args.frame) (rest_of K ds)) c.in-Some.ensures.cases.0 c.roles.invariant.looking) in
    subst (λ (b : Bool). Follows V c.args.now c.args.role.now new coded (whole_of c.args.frame) met hss (map (λ n. n.now) c.follow.new.met.items) (waiting c.follow.new.todo.items) b) c.if-branch.true
    (follows_next V c.args.now c.args.role.now new met hss (whole_of c.args.frame) coded (rest_of K c.in-Some.later.now) (map (λ n. n.now) c.follow.new.met.items) (waiting c.follow.new.todo.items) c.in_ok-follow.field-0 looking c.in_ok-follow.ensures.follows)

pub roles-preserved : goal.roles-preserved
roles-preserved c =
    let V : Shelf = shelf_view c.args.shelf.now in
    let new : File plain.Targets = targets_file c.args.new.now in
    let K : Table = keys.table_view c.args.frame.keys.now in
    let d : CodeDelegation = c.in-Some.delegation.now in
    let coded : Edge = record { role = c.as_str.result.now; terminating = d.terminating; rule = rule_view d.rule; table = K } in
    let met : Names = map (λ n. n.now) c.roles.met.items in
    let hss : List Hops = waiting c.roles.todo.items in
    let named : edge_of K (delegation_view d) ≡ coded = ap (λ (r : Name). record { role = r; terminating = d.terminating; rule = rule_view d.rule; table = K }) (sym c.as_str.ensures.value) in
    let looking : IsLooking V c.args.now c.args.role.now new met hss (whole_of c.args.frame) (Some coded ∷ rest_of K c.in-Some.later.now) =
    subst (λ (x : Edge). IsLooking V c.args.now c.args.role.now new met hss (whole_of c.args.frame) (Some x ∷ rest_of K c.in-Some.later.now)) named
    (subst (λ (ds : List CodeDelegation). IsLooking V c.args.now c.args.role.now new met hss (whole_of c.args.frame) (rest_of K ds)) c.in-Some.ensures.cases.0 c.roles.invariant.looking) in
    let follows = subst (λ (b : Bool). Follows V c.args.now c.args.role.now new coded (whole_of c.args.frame) met hss (map (λ n. n.now) c.follow.new.met.items) (waiting c.follow.new.todo.items) b) c.if-branch.false
    (follows_next V c.args.now c.args.role.now new met hss (whole_of c.args.frame) coded (rest_of K c.in-Some.later.now) (map (λ n. n.now) c.follow.new.met.items) (waiting c.follow.new.todo.items) c.in_ok-follow.field-0 looking c.in_ok-follow.ensures.follows) in
    record {
      looking = looks_on V c.args.now c.args.role.now new met hss (whole_of c.args.frame) coded (rest_of K c.in-Some.later.now) (map (λ n. n.now) c.follow.new.met.items) (waiting c.follow.new.todo.items) looking follows;
      known = c.in_ok-follow.ensures.known;
      less = let before = c.roles.invariant.less in let more = c.in_ok-follow.ensures.less in omega (arith, before, more);
    }

pub returns-clause-closes : goal.returns-clause-closes
returns-clause-closes c =
    let V : Shelf = shelf_view c.args.shelf.now in
    let K : Table = keys.table_view c.args.frame.keys.now in
    let none : c.roles.rest.now ≡ [] = none_left c.roles.rest.now c.in_default.ensures.cases in
    looked_at V c.args.now c.args.role.now (targets_file c.args.new.now) (map (λ n. n.now) c.roles.met.items) (waiting c.roles.todo.items) (whole_of c.args.frame)
    (subst (λ (ds : List CodeDelegation). IsLooking V c.args.now c.args.role.now (targets_file c.args.new.now) (map (λ n. n.now) c.roles.met.items) (waiting c.roles.todo.items) (whole_of c.args.frame) (rest_of K ds)) none c.roles.invariant.looking)
