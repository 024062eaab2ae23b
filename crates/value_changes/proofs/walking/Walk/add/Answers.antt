use Rattle.std.proofs.Common.{[], ◌∷◌, ◌++◌, map, ap, ◌∙◌}
use Rattle.std.proofs.lemmas.List.{map-append}
use Rattle.value_changes.specs.Views.{step_view, side_view, change_view}
use Rattle.value_changes.proofs.Covering.{whole_told}
use Rattle.value_changes.proofs.walking.Walk.add.Goals as goal

pub returns-clause-told : goal.returns-clause-told
returns-clause-told c =
    let place = c.in_ok-place.ensures.items ∙ c.as_slice.ensures.value in
    whole_told _ _ _ _ _ c.requires (ap (map change_view) c.in_ok-push.ensures.items ∙ map-append change_view c.args.self.now.found.items _
    ∙ ap (λ p. map change_view c.args.self.now.found.items ++ record { place = map step_view p; before = side_view c.args.before; after = side_view c.args.after } ∷ []) place)
