-- What is known of an input by what it asks.
use Rattle.std.proofs.Common.{Bool, ℕ, List}
use Rattle.http_messages.specs.Orders.{pass, found}
use Rattle.http_messages.specs.Request.{Request, fault, batch, put_blob, prune, metadata, target, HasWantedOf, AsksOf, commands, refuses}

-- it is a command
abbrev pub IsSomething : Request → Type 0
IsSomething (fault why) = ⊥
IsSomething (batch documents) = Unit {0}
IsSomething (put_blob digest bytes) = Unit {0}
IsSomething prune = Unit {0}
IsSomething (metadata name) = Unit {0}
IsSomething (target path) = Unit {0}

-- the head of a command refuses nothing
pub has-wanted : (only : Bool) (input : List ℕ) (request : Request) → IsSomething request → AsksOf only input request → HasWantedOf only input
has-wanted only input request some (commands (pass {a = at} (found heads) (pass {a = asked} says rest))) =
    record { head = at.0; rest = at.1; asked = asked; heads = heads; asks = says }
has-wanted only input _ some (refuses says) = absurd some
