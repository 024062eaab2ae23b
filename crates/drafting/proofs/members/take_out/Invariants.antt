use Rattle.std.proofs.Common.{◌≡◌, ◌∷◌, [], vec_len}
use Rattle.drafting.specs.Members.{AlikeBut, without}
use Rattle.drafting.specs.steps.Rows.{rows_view}
use Rattle.drafting.proofs.Rows.{shown}
use Rattle.drafting.proofs.members.take_out.Given as goal

abbrev pub invariant-members : goal.invariant-members
invariant-members l = record {
  alike : AlikeBut (l.name ∷ []) (shown l.fn.members.items) (shown l.members.items);
  rest : without (l.name ∷ []) (rows_view l.members.items) ≡ without (l.name ∷ []) (rows_view l.fn.members.items);
}

abbrev pub decreases-members : goal.decreases-members
decreases-members l = vec_len l.members
