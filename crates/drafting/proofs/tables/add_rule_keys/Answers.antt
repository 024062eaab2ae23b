use Rattle.std.proofs.Common.{◌≡◌, ℕ, List, [], ◌∷◌, ◌++◌, rules, sym, ◌∙◌, subst}
use Rattle.canonical_json.specs.Json.{Json}
use Rattle.canonical_json.specs.View.{view}
use Rattle.keys_roles.specs.Keys.{id_of, key_object}
use Rattle.keys_roles.specs.Views.{key_view}
use Rattle.drafting.specs.Members.{Puts, PutsAll}
use Rattle.drafting.specs.Roots.{keys_of}
use Rattle.drafting.specs.declared.rules.NamedKey.{NamedKey}
use Rattle.drafting.specs.steps.Rules.{keys_view}
use Rattle.drafting.proofs.Lists.{puts_more}
use Rattle.drafting.proofs.Results.{no_rows}
use Rattle.drafting.proofs.Rows.{shown}
use Rattle.drafting.proofs.tables.add_rule_keys.Goals as goal

pub keys-preserved : goal.keys-preserved
keys-preserved c =
    λ rows d more.
    let m = shown c.keys.table.items in
    let a = shown c.put.new.members.items in
    let key = c.in-Some.key.now in
    let later = c.in-Some.later.now in
    let is : c.keys.rest.now ≡ key ∷ later = search rules in
    let put = subst (λ (x : Json). Puts (id_of (key_view key.key)) x m a) c.in_ok-value.ensures (subst (λ (n : List ℕ). Puts n (view c.in_ok-value.value) m a) (c.as_str.ensures.value ∙ c.in_ok-id.ensures) c.in_ok-put.ensures.puts) in
    c.keys.invariant rows d (subst (λ (r : List NamedKey). PutsAll (keys_of (keys_view r) ++ rows) m d) (sym is)
    (puts_more (id_of (key_view key.key), key_object (key_view key.key)) (keys_of (keys_view later) ++ rows) m a d put more))

pub returns : goal.returns
returns c =
    λ rows d more.
    let m = shown c.keys.table.items in
    let none : c.keys.rest.now ≡ [] = no_rows c.keys.rest.now c.in_default.ensures.cases in
    c.keys.invariant rows d (subst (λ (r : List NamedKey). PutsAll (keys_of (keys_view r) ++ rows) m d) (sym none) more)
