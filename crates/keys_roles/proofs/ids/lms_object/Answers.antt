use Rattle.std.proofs.Common.{◌≡◌, List, ℕ, ◌++◌, ap, subst, ◌∙◌}
use Rattle.std.specs.Prelude.{IfOk}
use Rattle.keys_roles.proofs.KeyObjects.{lms_bytes_are, before_digits, behind_lms}
use Rattle.keys_roles.proofs.ids.lms_object.Goals as goal

pub returns : goal.returns
returns c =
    subst (λ (bytes : List ℕ). IfOk c.object_around.result (λ object. object.items ≡ bytes))
    (ap (λ d. (before_digits ++ d) ++ behind_lms) c.lms_digits.ensures ∙ lms_bytes_are c.args.public.now)
    c.object_around.ensures
