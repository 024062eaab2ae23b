use Rattle.std.proofs.Common.{ap, ◌∙◌, ◌++◌, List, map, option_map}
use Rattle.document_parts.specs.Views.{profile_view}
use Rattle.trust_rules.specs.State.{kept_root}
use Rattle.document_parts.specs.Documents.{Profile}
use Rattle.metadata.specs.File.{Bytes}
use Rattle.metadata.specs.FileViews.{root_file, timestamp_file, snapshot_file, targets_file}
use Rattle.delegations.specs.Rows.{Rows, with_rows}
use Rattle.delegations.specs.Views.{row_views}
use Rattle.state_parts.specs.Views.{last_kept}
use Rattle.trust_rules.proofs.PutInRoom.{map_twice, map_emptied, last_seen, renewed_seen, same_trusted}
use Rattle.state_parts.proofs.taking.take_changes.Goals as goal

pub returns : goal.returns
returns c =
    let was = c.args.trusted.now in
    let e = c.args.changes in
    same_trusted _ _ _ _ _ _ _ _ _ _
    (c.take_roots.ensures.kept
    ∙ ap (λ (l : List (Profile × Bytes)). (map (λ b. (profile_view b.0, b.1.items)) was.earlier.items ++ last_kept was.root) ++ l) (map_twice kept_root root_file e.roots.items))
    (ap (option_map root_file) c.take_roots.ensures.last ∙ last_seen root_file was.root e.roots.items)
    (ap (option_map timestamp_file) c.renew.ensures ∙ renewed_seen timestamp_file e.emptied was.timestamp e.timestamp)
    (ap (option_map snapshot_file) c.renew-2.ensures ∙ renewed_seen snapshot_file e.emptied was.snapshot e.snapshot)
    (c.take_rows.ensures
    ∙ ap (λ (l : Rows). with_rows l (row_views e.rows.items))
    (rw (c.empty_if.ensures.items) (map_emptied (λ r. ((r.role, r.version), targets_file r.file)) e.emptied was.shelf.items)))
