-- How a subcommand ends that makes one command over a repository.
use Rattle.std.proofs.Common.{◌≡◌, ℕ, Result, Ok, Err, sym, subst}
use Rattle.std.specs.Prelude.{IfErr}
use Rattle.trust_rules.specs.State.{State}
use Rattle.trust_rules.specs.Runs as runs
use Rattle.store.specs.Applies.{Replies}
use Rattle.store.specs.Views.{reply_view}
use Rattle.store.specs.declared.command.Reply.{Reply}
use Rattle.cli_faults.specs.declared.fault.Fault.{Fault}
use Rattle.cli_faults.specs.Statuses.{status_of}
use Rattle.cli_repository.specs.Faults.{refused_of}
use Rattle.cli_repository.specs.Works.{Ends, EndsBy, IsReply}
use Rattle.cli_repository.proofs.Ending.{ends, printed, refused_by}

-- a reply to such a command is always that of the step
abbrev pub IsPlain : runs.Command → ℕ → Type 1
IsPlain command now = (trusted : Type 0) (S T : State) (q : runs.Reply) → Replies trusted S command now T q → runs.Steps S command now (T, q)

module _ (command : runs.Command) (now : ℕ) (IsDone : runs.Reply → Type 0) (plain : IsPlain command now) (reply : Reply) (is : IsReply command now reply) where
  pub ended : (r : Result (Unit {0}) Fault) → EndsBy (reply_view reply) IsDone r → Ends command now IsDone r
  ended r e = ends command now IsDone is.S is.T (reply_view reply) r (plain _ is.S is.T (reply_view reply) is.replies) e

  -- what was done was printed, or could not be
  pub printed_ends : (r : Result (Unit {0}) Fault) → IfErr r (λ fault. status_of fault ≡ 3) → IsDone (reply_view reply) → Ends command now IsDone r
  printed_ends r h done = ended r (printed (reply_view reply) IsDone r h done)

  -- another reply
  pub refused_ends : (fault : Fault) → fault ≡ refused_of reply → Ends command now IsDone (Err fault)
  refused_ends fault e = ended (Err fault) (subst (λ (f : Fault). EndsBy (reply_view reply) IsDone (Err f)) (sym e) (refused_by reply IsDone))
