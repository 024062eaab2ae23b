use Rattle.std.proofs.Common.{List, inr, codes, subst}
use Rattle.canonical_json.specs.Json.{Json}
use Rattle.drafting.specs.Members.{HasNone, Puts}
use Rattle.drafting.specs.Targets.{IsThere}
use Rattle.drafting.specs.declared.faults.TopRole.{TopRole}
use Rattle.drafting.specs.Roots.{key_rows, name_rows, role_name}
use Rattle.drafting.specs.steps.Rules.{PutsOne, rules_view}
use Rattle.drafting.proofs.RootParts.{rules_put}
use Rattle.drafting.proofs.Rows.{Row, shown}
use Rattle.drafting.proofs.roots.put_rules.Goals as goal

pub returns-clause-ok : goal.returns-clause-ok
returns-clause-ok c =
    let rules = rules_view c.args.rules.now in
    let b = shown c.take_object-roles.new.members.items in
    let keyed = shown c.put_keys.new.members.items in
    let named = shown c.put_names.new.members.items in
    let d = shown c.put.new.members.items in
    let e = shown c.put-2.new.members.items in
    let roles = shown c.put_roles.new.roles.items in
    rules_put rules (shown c.args.members.now.items) b keyed named d e (shown c.take_object-roles.result.items) roles
    c.take_object-roles.ensures.object c.take_object-roles.ensures.others c.in_ok-put_roles.ensures
    (subst (λ (r : List Row). (role : TopRole) → IsThere (shown r) (role_name role)) c.as_slice.ensures.value c.in-Ok.ensures.ok)
    (subst (λ (r : List Row). PutsOne (codes "keys") (key_rows rules) (shown r) b keyed) c.as_slice-2.ensures.value c.in_ok-put_keys.ensures)
    (subst (λ (r : List Row). PutsOne (codes "names") (name_rows rules) (shown r) keyed named) c.as_slice-3.ensures.value c.in_ok-put_names.ensures)
    (subst (λ (x : Json). Puts (codes "roles") x named d) c.object_value.ensures c.in_ok-put.ensures.puts)
    (subst (λ (x : Json). Puts (codes "consistent_snapshot") x d e) c.true_value.ensures c.in_ok-put-2.ensures.puts)

pub returns-in-Err-clause-err : goal.returns-in-Err-clause-err
returns-in-Err-clause-err c =
    let h = c.in-Err.ensures.err in
    let none = subst (λ (r : List Row). HasNone (shown r) (role_name h.0)) c.as_slice.ensures.value h.2 in
    inr (shown c.take_object-roles.result.items, shown c.put_roles.new.roles.items, h.0, c.take_object-roles.ensures.object, c.in_ok-put_roles.ensures, none, h.1)
