use Rattle.std.proofs.Common.{ap, ◌∙◌, ◌++◌, None, map, option_map, refl}
use Rattle.document_parts.specs.Views.{profile_view}
use Rattle.trust_rules.specs.State.{kept_root}
use Rattle.metadata.specs.FileViews.{root_file}
use Rattle.state_parts.specs.Views.{last_kept}
use Rattle.trust_rules.proofs.PutInRoom.{map_twice, last_seen, same_state}
use Rattle.state_parts.proofs.taking.laid_parts.Goals as goal

pub returns : goal.returns
returns c =
    let roots = c.args.files.changes.roots.items in
    same_state _ _ _ _ _ _ _ _ _ _ _ _
    (c.take_roots.ensures.kept
    ∙ (ap (λ l. (map (λ b. (profile_view b.0, b.1.items)) l ++ last_kept None) ++ map (λ r. kept_root (root_file r)) roots) c.in_ok-earlier.ensures.items
    ∙ map_twice kept_root root_file roots))
    (ap (option_map root_file) c.take_roots.ensures.last ∙ last_seen root_file None roots)
    refl refl refl refl
