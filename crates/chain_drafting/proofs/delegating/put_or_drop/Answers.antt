use Rattle.std.proofs.Common.{◌≡◌, List, [], codes, length, ap, rules, subst}
use Rattle.canonical_json.specs.Json.{Json}
use Rattle.chain_drafting.specs.Delegations.{key_rows, name_rows}
use Rattle.drafting.specs.Members.{Puts}
use Rattle.chain_drafting.specs.steps.Delegated.{all_view}
use Rattle.drafting.specs.steps.Rows.{rows_view}
use Rattle.drafting.specs.steps.Rules.{PutsOne}
use Rattle.chain_drafting.proofs.DelegationParts.{dropped, put_any, standing}
use Rattle.drafting.proofs.Results.{no_rows, on_ok}
use Rattle.chain_drafting.proofs.RoleRows.{no_view}
use Rattle.drafting.proofs.Rows.{Row, list_view, shown}
use Rattle.chain_drafting.proofs.delegating.put_or_drop.Goals as goal

pub returns-then-is_empty : goal.returns-then-is_empty
returns-then-is_empty c =
    let none : length c.args.list.items ≡ 0 = search rules in
    let rows : rows_view c.args.list.items ≡ [] = ap (λ (l : List Row). rows_view l) (no_rows c.args.list.items none) in
    dropped (all_view c.args.delegated.now) (rows_view c.args.list.items) (shown c.args.inner.items) (shown c.args.members.now.items) (shown c.take_out.new.members.items)
    (shown c.take_out-then-is_empty.new.members.items) rows c.take_out.ensures.dropped c.take_out-then-is_empty.ensures.dropped

pub returns : goal.returns
returns c =
    let delegated = all_view c.args.delegated.now in
    let rows = c.args.list.items in
    let i = shown c.args.inner.items in
    let j = shown c.put_keys.new.inner.items in
    let k = shown c.put.new.members.items in
    let b = shown c.args.members.now.items in
    let d = shown c.put_names.new.members.items in
    let e = shown c.put-2.new.members.items in
    let values = c.in_ok-values.values.items in
    let some : rows_view rows ≡ [] → ⊥ = λ is. let none : length rows ≡ 0 = no_view rows is in absurd (search rules) in
    on_ok _ _ c.put-2.result c.put-2.ensures.puts (λ put.
    put_any delegated (rows_view rows) i b e some (standing delegated rows i j k b d e values
    (subst (λ (r : List Row). PutsOne (codes "keys") (key_rows delegated) (shown r) i j) c.as_slice.ensures.value c.in_ok-put_keys.ensures)
    (subst (λ (r : List Row). PutsOne (codes "names") (name_rows delegated) (shown r) b d) c.as_slice-2.ensures.value c.in_ok-put_names.ensures)
    c.in_ok-values.ensures
    (subst (λ (x : Json). Puts (codes "roles") x j k) (list_view c.in_ok-values.values) c.in_ok-put.ensures.puts)
    (subst (λ (x : Json). Puts (codes "delegations") x d e) c.object_value.ensures put)))
