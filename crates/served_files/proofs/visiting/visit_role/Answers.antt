use Rattle.std.proofs.Common.{◌≡◌, ◌∙◌, [], Some, ap, refl, subst, sym}
use Rattle.path_patterns.specs.Names.{dotted}
use Rattle.served_files.specs.Served.{IsOfRole}
use Rattle.served_files.specs.steps.Visits.{AreInOrder}
use Rattle.served_files.proofs.Files.{read_none, read_some}
use Rattle.served_files.proofs.InOrder.{role_missing}
use Rattle.served_files.proofs.Telling.{became_behind, became_none, on_ok}
use Rattle.served_files.proofs.visiting.visit_role.Goals as goal

pub returns-in-Some : goal.returns-in-Some
returns-in-Some g c = on_ok c.visit_targets.result c.visit_targets.ensures (λ p.
    let same : c.as_str-in-Some.result.now ≡ c.as_str-2.result.now = c.as_str-in-Some.ensures.value ∙ sym c.as_str-2.ensures.value in
    let named : c.as_str-in-Some.result.now ≡ dotted c.args.row.now.1.version c.args.row.now.0 = c.as_str-in-Some.ensures.value ∙ c.in_ok-name.ensures ∙ ap (dotted c.args.row.now.1.version) c.as_str.ensures.value in
    became_behind _ _ _ _ c.as_str-2.result.now _ _ _ c.in_ok-bytes.ensures p (λ files xs found so.
    subst (λ n. AreInOrder files (IsOfRole files n) xs) named
    (so (ap files same ∙ read_some _ _ _ c.in-Some.is found ∙ ap Some (sym c.deref.ensures.value)))))

pub returns : goal.returns
returns g c =
    let named : c.as_str-2.result.now ≡ dotted c.args.row.now.1.version c.args.row.now.0 = c.as_str-2.ensures.value ∙ c.in_ok-name.ensures ∙ ap (dotted c.args.row.now.1.version) c.as_str.ensures.value in
    became_behind _ _ _ _ c.as_str-2.result.now _ (λ files xs. xs ≡ []) _ c.in_ok-bytes.ensures (became_none _ _ (λ files xs. xs ≡ []) (λ files. refl))
    (λ files xs found same. subst (λ zs. AreInOrder files (IsOfRole files (dotted c.args.row.now.1.version c.args.row.now.0)) zs) (sym same)
    (subst (λ n. AreInOrder files (IsOfRole files n) []) named (role_missing files c.as_str-2.result.now (read_none _ _ c.in-None.is found))))
