use Rattle.std.specs.Prelude.{All}
use Rattle.cli_placing.specs.Puts.{Called, IsRefused}
use Rattle.cli_placing.proofs.putting.begun_beside.Given as goal

abbrev pub invariant-loop-number : goal.invariant-loop-number
invariant-loop-number g l = Called (g.P.Places.log l.initial.places) (g.P.Places.log l.places) (λ calls. All (IsRefused l.place l.mode) calls)
