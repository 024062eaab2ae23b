use Rattle.std.proofs.Common.{◌≡◌, ◌-◌, length, map, None, Option, ap, arith}
use Rattle.std.specs.Prelude.{option_map, unwrap_or}
use Rattle.document_parts.specs.Documents.{Root}
use Rattle.metadata.specs.File.{File}
use Rattle.metadata.specs.FileViews.{root_file}
use Rattle.store.specs.steps.Changed.{last_version}
use Rattle.store.proofs.Appending.{last_at}
use Rattle.store.proofs.changes.put_roots.Goals as goal

pub returns : goal.returns
returns c =
    let roots = c.args.roots.now in
    let version : last_version (map root_file roots) ≡ c.in-Some.last.now.body.version =
    ap (λ (o : Option (File Root)). unwrap_or (option_map (λ root. root.body.version) o) 0)
    (last_at root_file None roots c.in-Some.last.now (length roots - 1) (omega (arith, c.in-Some.ensures.item.3.0)) (c.in-Some.ensures.item.3.1 _)) in
    rw version c.put_roots_to.ensures
