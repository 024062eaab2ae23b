use Rattle.release.specs.Serving.{none, served}
use Rattle.release.proofs.serve.Server.serve_one.Goals as goal
use Rattle.release.proofs.serve.Server.serve_one.Goals.{then-reads_only, else-reads_only}

pub returns-in_default : goal.returns-in_default
returns-in_default g c = none

pub returns : goal.returns
returns g c =
    elim c.if-reads_only.branch [
      | then-reads_only w ↦ rw w.if-reads_only.true (rw w.repository-is (served _ _ _ none w.serve_list_reading.ensures.serves))
      | else-reads_only w ↦ rw w.if-reads_only.false (rw w.repository-is (served _ _ _ none w.serve_list_told.ensures.serves))
    ]
