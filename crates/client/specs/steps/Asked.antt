-- What a client's own state says of a target.
use Rattle.std.specs.Prelude.{◌≡◌, ℕ, None, Result, Ok, Err, ⊤}
use Rattle.metadata.specs.File.{Bytes}
use Rattle.denials.specs.Orders as orders
use Rattle.denials.specs.Views.{denial_view}
use Rattle.trust_rules.specs.State.{State}
use Rattle.trust_rules.specs.Grants.{grants}
use Rattle.trust_rules.specs.Runs.{Reply, FileBytes, Refused}
use Rattle.store.specs.Standing.{IsClean, Standing}
use Rattle.store.specs.declared.command.Reply.{Reply as Answer}
use Rattle.store.specs.declared.command.Reply.TheVariants as replies
use Rattle.client.specs.Changes.{Changes}
use Rattle.client.specs.Session.{IsKnown, IsUnmade}
use Rattle.client.specs.Views.{fault_view}
use Rattle.client.specs.declared.fault.ClientFault.{ClientFault}
use Rattle.client.specs.declared.fetching.Asked.{Asked}
use Rattle.client.specs.declared.fetching.Asked.TheVariants as asks

abbrev pub IsAsked : Type 0 → State → Bytes → ℕ → Asked → Type 0
IsAsked trusted C path now (asks.Granted bytes) = trusted → grants C path None now (Ok bytes.items)
IsAsked trusted C path now (asks.Denied denial) = IsKnown trusted C path now (denial_view denial) → grants C path None now (Err (orders.Denied (denial_view denial)))

-- a reply to one who asks for a target
abbrev pub IsTargetReply : Reply → Type 0
IsTargetReply (FileBytes b) = ⊤
IsTargetReply (Refused d index) = ⊤
IsTargetReply reply = ⊥

abbrev pub IsSaidBy : Answer → Asked → Type 0
IsSaidBy (replies.Bytes bytes) asked = asked ≡ asks.Granted bytes
IsSaidBy (replies.Denied denial index) asked = asked ≡ asks.Denied denial
IsSaidBy answer asked = ⊥

-- the state is as it was, and says so
abbrev pub IsAnswered : Standing → Standing → Bytes → ℕ → Result Asked ClientFault → Type 0
IsAnswered A B path now (Ok asked) = Changes A B (λ C D. (D ≡ C) × IsAsked (IsClean B) C path now asked)
IsAnswered A B path now (Err fault) = Changes A B (λ C D. D ≡ C) × IsUnmade (fault_view fault)
