use Rattle.std.proofs.Common.{length, map}
use Rattle.artifact_rules.specs.Views.{links_view}
use Rattle.denials.specs.Numbers as no
use Rattle.denials.specs.Orders.{Judged, check}
use Rattle.keys_roles.specs.Views.{table_view}
use Rattle.document_parts.specs.Views.{step_view}
use Rattle.layouts.specs.Layouts.{AllAgree, EnoughKeys, all}
use Rattle.layouts.specs.Views.{files_view}
use Rattle.layouts.specs.steps.Gathering.{IsEnough}
use Rattle.layouts.proofs.Judged.{AgreeSoFar}
use Rattle.layouts.proofs.Lists.{Paired}
use Rattle.layouts.proofs.gathering.gather_all.Given as goal

abbrev pub invariant-steps : goal.invariant-steps
invariant-steps l = record {
  paired : Paired (IsEnough (table_view l.keys) (files_view l.links)) (map step_view l.fn.steps) (map step_view l.rest) (links_view l.found.items);
  agree : AgreeSoFar (AllAgree (table_view l.keys) (files_view l.links)) l.agree (map step_view l.fn.steps) (map step_view l.rest);
  whole : (r : Judged (Unit {0})) → all (λ s. check no.step_threshold (EnoughKeys (table_view l.keys) (files_view l.links) s)) (map step_view l.rest) r
      → all (λ s. check no.step_threshold (EnoughKeys (table_view l.keys) (files_view l.links) s)) (map step_view l.fn.steps) r;
}

abbrev pub decreases-steps : goal.decreases-steps
decreases-steps l = length l.rest
