use Rattle.std.proofs.Common.{◌≡◌, List, ℕ, ◌++◌, ap, subst, ◌∙◌}
use Rattle.std.specs.Prelude.{IfOk}
use Rattle.keys_roles.proofs.KeyObjects.{hss_bytes_are, before_digits, behind_hss}
use Rattle.keys_roles.proofs.ids.hss_object.Goals as goal

pub returns : goal.returns
returns c =
    subst (λ (bytes : List ℕ). IfOk c.object_around.result (λ object. object.items ≡ bytes))
    (ap (λ d. (before_digits ++ d) ++ behind_hss) c.hss_digits.ensures ∙ hss_bytes_are c.args.public.now)
    c.object_around.ensures
