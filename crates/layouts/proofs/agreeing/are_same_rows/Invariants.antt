use Rattle.std.proofs.Common.{◌≡◌, length}
use Rattle.layout_files.specs.steps.Spelled.{artifact_views}
use Rattle.layouts.proofs.agreeing.are_same_rows.Given as goal

abbrev pub invariant-rows : goal.invariant-rows
invariant-rows l = record {
  ahead : artifact_views l.fn.a ≡ artifact_views l.fn.b → artifact_views l.rest ≡ artifact_views l.others;
  back : artifact_views l.rest ≡ artifact_views l.others → artifact_views l.fn.a ≡ artifact_views l.fn.b;
}

abbrev pub decreases-rows : goal.decreases-rows
decreases-rows l = length l.rest
