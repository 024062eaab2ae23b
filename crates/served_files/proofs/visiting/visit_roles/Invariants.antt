use Rattle.std.proofs.Common.{map, take}
use Rattle.document_parts.specs.Views.{meta_view}
use Rattle.served_files.specs.steps.Visits.{AreInOrder, Became, IsOfRolesIn}
use Rattle.served_files.proofs.visiting.visit_roles.Given as goal

abbrev pub invariant-loop-row : goal.invariant-loop-row
invariant-loop-row g l = Became g.V.FileVisitor.Stands l.initial.visitor l.visitor (λ files more. AreInOrder files (IsOfRolesIn files (map (λ e. (e.0, meta_view e.1)) (take l.row-index l.rows))) more)
