use Rattle.std.proofs.Common.{◌≡◌, ℕ, ◌-◌, ◌≤◌, length, drop}
use Rattle.std.specs.Prelude.{Result}
use Rattle.denials.specs.Orders as orders
use Rattle.delegations.specs.Verdicts.{AreFoundOut}
use Rattle.trust_rules.specs.Offers as commands
use Rattle.trusted_state.specs.Views.{documents_view, draft_view}
use Rattle.judging.proofs.batches.judge_all.Given as goal

abbrev pub invariant-loop-index : goal.invariant-loop-index
invariant-loop-index l = record {
  onward : (r : Result commands.Batched (orders.Denial × ℕ))
      → commands.batch_from (record { trusted = draft_view l.draft; accepted = l.accepted; same = l.same }) l.index (documents_view (drop l.index l.documents)) l.now r
      → commands.batch (draft_view l.fn.draft) (documents_view l.documents) l.now r;
  base : l.draft.base.now ≡ l.fn.draft.base.now;
  known : AreFoundOut (draft_view l.draft).shelf l.known;
  count : l.index ≤ length l.documents;
  few_accepted : l.accepted ≤ l.index;
  few_same : l.same ≤ l.index;
}

abbrev pub decreases-loop-index : goal.decreases-loop-index
decreases-loop-index l = length l.documents - l.index
