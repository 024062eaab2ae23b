use Rattle.std.proofs.Common.{◌≡◌, ◌∙◌, [], Some, ap, refl, subst, sym}
use Rattle.served_files.specs.Served.{IsOfSnapshot, snapshot_name}
use Rattle.served_files.specs.steps.Visits.{AreInOrder}
use Rattle.served_files.proofs.Files.{read_none, read_some}
use Rattle.served_files.proofs.InOrder.{snapshot_missing}
use Rattle.served_files.proofs.Telling.{became_behind, became_none, on_ok}
use Rattle.served_files.proofs.visiting.visit_version.Goals as goal

pub returns-in-Some : goal.returns-in-Some
returns-in-Some g c = on_ok c.visit_snapshot.result c.visit_snapshot.ensures (λ p.
    let same : c.as_str-in-Some.result.now ≡ c.as_str.result.now = c.as_str-in-Some.ensures.value ∙ sym c.as_str.ensures.value in
    let named : c.as_str-in-Some.result.now ≡ snapshot_name c.args.version = c.as_str-in-Some.ensures.value ∙ c.in_ok-name.ensures in
    became_behind _ _ _ _ c.as_str.result.now _ _ _ c.in_ok-bytes.ensures p (λ files xs found so.
    subst (λ n. AreInOrder files (IsOfSnapshot files n) xs) named
    (so (ap files same ∙ read_some _ _ _ c.in-Some.is found ∙ ap Some (sym c.deref.ensures.value)))))

pub returns : goal.returns
returns g c =
    let named : c.as_str.result.now ≡ snapshot_name c.args.version = c.as_str.ensures.value ∙ c.in_ok-name.ensures in
    became_behind _ _ _ _ c.as_str.result.now _ (λ files xs. xs ≡ []) _ c.in_ok-bytes.ensures (became_none _ _ (λ files xs. xs ≡ []) (λ files. refl))
    (λ files xs found same. subst (λ zs. AreInOrder files (IsOfSnapshot files (snapshot_name c.args.version)) zs) (sym same)
    (subst (λ n. AreInOrder files (IsOfSnapshot files n) []) named (snapshot_missing files c.as_str.result.now (read_none _ _ c.in-None.is found))))
