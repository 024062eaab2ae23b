-- What the code's files stand for.
use Rattle.document_parts.specs.Documents as plain
use Rattle.metadata.specs.File as spec
use Rattle.document_parts.specs.Links as links
use Rattle.document_parts.specs.RuleViews.{link_view}
use Rattle.document_parts.specs.Views.{root_view, timestamp_view, snapshot_view, targets_view, layout_view}
use Rattle.document_parts.specs.declared.documents.Root.{Root}
use Rattle.document_parts.specs.declared.documents.Timestamp.{Timestamp}
use Rattle.document_parts.specs.declared.documents.Snapshot.{Snapshot}
use Rattle.document_parts.specs.declared.documents.Targets.{Targets}
use Rattle.document_parts.specs.declared.documents.Layout.{Layout}
use Rattle.document_parts.specs.declared.links.Link.{Link}
use Rattle.metadata.specs.declared.file.File.{File}

abbrev file_view : {A B : Type 0} → (B → A) → File B → spec.File A
file_view view f = record { bytes = f.source.bytes; signed = f.source.signed; entries = f.source.entries; body = view f.body }

abbrev pub root_file : File Root → spec.File plain.Root
root_file f = file_view root_view f

abbrev pub timestamp_file : File Timestamp → spec.File plain.Timestamp
timestamp_file f = file_view timestamp_view f

abbrev pub snapshot_file : File Snapshot → spec.File plain.Snapshot
snapshot_file f = file_view snapshot_view f

abbrev pub targets_file : File Targets → spec.File plain.Targets
targets_file f = file_view targets_view f

abbrev pub layout_file : File Layout → spec.File plain.Layout
layout_file f = file_view layout_view f

abbrev pub link_file : File Link → spec.File links.Link
link_file f = file_view link_view f
