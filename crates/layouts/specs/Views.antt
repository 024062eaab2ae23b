-- What the links' files of a call stand for.
use Rattle.std.specs.Prelude.{List, map}
use Rattle.metadata.specs.File as plain
use Rattle.metadata.specs.FileViews.{link_file}
use Rattle.document_parts.specs.Links as links
use Rattle.metadata.specs.declared.file.File.{File}
use Rattle.document_parts.specs.declared.links.Link.{Link}

abbrev pub files_view : List (File Link) → List (plain.File links.Link)
files_view files = map link_file files
