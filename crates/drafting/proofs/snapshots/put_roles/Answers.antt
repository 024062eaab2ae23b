use Rattle.std.proofs.Common.{◌≡◌, ℕ, List, [], ◌∷◌, String, string_bytes, rules, sym, subst}
use Rattle.std.specs.declared.alloc.Global.{Global}
use Rattle.drafting.specs.Members.{PutsAll, Puts}
use Rattle.drafting.specs.Snapshots.{entries, file_name}
use Rattle.drafting.specs.Timestamps.{entry}
use Rattle.drafting.specs.steps.Rows.{roles_view}
use Rattle.drafting.proofs.Lists.{puts_more, puts_none}
use Rattle.drafting.proofs.Results.{no_rows}
use Rattle.drafting.proofs.Rows.{shown}
use Rattle.drafting.proofs.snapshots.put_roles.Goals as goal

abbrev Role : Type 0
Role = String Global × ℕ

pub roles-preserved : goal.roles-preserved
roles-preserved c =
    λ d more.
    let m = shown c.roles.meta.items in
    let a = shown c.put_role.new.meta.items in
    let row = c.in-Some.row.now in
    let later = c.in-Some.later.now in
    let is : c.roles.rest.now ≡ row ∷ later = search rules in
    let put = subst (λ (n : List ℕ). Puts (file_name n) (entry row.1) m a) c.as_str.ensures.value c.in_ok-put_role.ensures in
    c.roles.invariant d (subst (λ (r : List Role). PutsAll (entries (roles_view r)) m d) (sym is)
    (puts_more (file_name (string_bytes row.0), entry row.1) (entries (roles_view later)) m a d put more))

pub returns : goal.returns
returns c =
    let m = shown c.roles.meta.items in
    let none : c.roles.rest.now ≡ [] = no_rows c.roles.rest.now c.in_default.ensures.cases in
    c.roles.invariant m (subst (λ (r : List Role). PutsAll (entries (roles_view r)) m m) (sym none) (puts_none m))
