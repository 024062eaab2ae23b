use Rattle.std.proofs.Common.{string_bytes}
use Rattle.exported_files.proofs.export.export_files.Given as goal

abbrev pub ghosts-export_into : goal.ghosts-export_into
ghosts-export_into g a = record { folder = string_bytes a.folder.now }
