-- How a subcommand ends by the reply to its command.
use Rattle.std.proofs.Common.{◌≡◌, ℕ, Option, Result, Ok, Err, refl, sym, subst}
use Rattle.std.specs.Prelude.{IfErr}
use Rattle.denials.specs.Orders as orders
use Rattle.denials.specs.Views.{denial_view}
use Rattle.trust_rules.proofs.GrantsEnd.{refusals_keep}
use Rattle.trust_rules.specs.State.{State}
use Rattle.trust_rules.specs.Runs as runs
use Rattle.store.specs.Views.{reply_view}
use Rattle.store.specs.declared.command.Reply.{Reply}
use Rattle.store.specs.declared.command.Reply.TheVariants as replies
use Rattle.cli_faults.specs.Statuses.{status_of}
use Rattle.cli_faults.specs.declared.fault.Fault.{Fault}
use Rattle.cli_faults.specs.declared.fault.Fault.TheVariants as faults
use Rattle.cli_repository.specs.Faults.{refused_of}
use Rattle.cli_repository.specs.Works.{Ends, EndsBy}

-- a fault of status 3 is none of a denial
module _ (reply : runs.Reply) (IsDone : runs.Reply → Type 0) where
  pub other_by : (fault : Fault) → status_of fault ≡ 3 → EndsBy reply IsDone (Err fault)
  other_by (faults.Denied denial index) e = absurd cc
  other_by (faults.Usage text) e = e
  other_by (faults.Help text) e = e
  other_by (faults.Refused number name index) e = e
  other_by (faults.Slip slip) e = e
  other_by faults.Due e = e
  other_by faults.NotFresh e = e
  other_by faults.LeavesSpent e = e
  other_by faults.UnknownKey e = e
  other_by faults.Memory e = e
  other_by faults.Database e = e
  other_by faults.Damaged e = e
  other_by faults.Network e = e
  other_by faults.File e = e
  other_by faults.Clock e = e

  -- what is done was printed, or could not be
  pub printed : (r : Result (Unit {0}) Fault) → IfErr r (λ fault. status_of fault ≡ 3) → IsDone reply → EndsBy reply IsDone r
  printed (Ok u) h is = is
  printed (Err fault) h is = other_by fault h

-- a reply by which nothing is done
pub refused_by : (reply : Reply) (IsDone : runs.Reply → Type 0) → EndsBy (reply_view reply) IsDone (Err (refused_of reply))
refused_by (replies.Denied denial index) IsDone = refl
refused_by replies.Begun IsDone = refl
refused_by (replies.Batch accepted same) IsDone = refl
refused_by (replies.Offered same) IsDone = refl
refused_by (replies.Stored new) IsDone = refl
refused_by (replies.Pruned blobs rows) IsDone = refl
refused_by (replies.Bytes bytes) IsDone = refl
refused_by replies.Absent IsDone = refl

module _ (command : runs.Command) (now : ℕ) (IsDone : runs.Reply → Type 0) where
  -- no command was made
  pub unmade : (fault : Fault) → status_of fault ≡ 3 → Ends command now IsDone (Err fault)
  unmade (faults.Denied denial index) e = absurd cc
  unmade (faults.Usage text) e = e
  unmade (faults.Help text) e = e
  unmade (faults.Refused number name index) e = e
  unmade (faults.Slip slip) e = e
  unmade faults.Due e = e
  unmade faults.NotFresh e = e
  unmade faults.LeavesSpent e = e
  unmade faults.UnknownKey e = e
  unmade faults.Memory e = e
  unmade faults.Database e = e
  unmade faults.Damaged e = e
  unmade faults.Network e = e
  unmade faults.File e = e
  unmade faults.Clock e = e

  denied : (S T : State) (reply : runs.Reply) (d : orders.Denial) (index : Option ℕ) → runs.Steps S command now (T, reply) → reply ≡ runs.Refused d index
      → (U : State) × runs.Steps U command now (U, runs.Refused d index)
  denied S T reply d index h e =
      let step : runs.Steps S command now (T, runs.Refused d index) = subst (λ (x : runs.Reply). runs.Steps S command now (T, x)) e h in
      (S, subst (λ (U : State). runs.Steps S command now (U, runs.Refused d index)) (refusals_keep S T command now d index step) step)

  -- one was made, and it ends by its reply
  pub ends : (S T : State) (reply : runs.Reply) (r : Result (Unit {0}) Fault) → runs.Steps S command now (T, reply) → EndsBy reply IsDone r → Ends command now IsDone r
  ends S T reply (Ok u) h e = (S, T, reply, h, e)
  ends S T reply (Err (faults.Denied denial index)) h e = denied S T reply (denial_view denial) index h e
  ends S T reply (Err (faults.Usage text)) h e = e
  ends S T reply (Err (faults.Help text)) h e = e
  ends S T reply (Err (faults.Refused number name index)) h e = e
  ends S T reply (Err (faults.Slip slip)) h e = e
  ends S T reply (Err faults.Due) h e = e
  ends S T reply (Err faults.NotFresh) h e = e
  ends S T reply (Err faults.LeavesSpent) h e = e
  ends S T reply (Err faults.UnknownKey) h e = e
  ends S T reply (Err faults.Memory) h e = e
  ends S T reply (Err faults.Database) h e = e
  ends S T reply (Err faults.Damaged) h e = e
  ends S T reply (Err faults.Network) h e = e
  ends S T reply (Err faults.File) h e = e
  ends S T reply (Err faults.Clock) h e = e
