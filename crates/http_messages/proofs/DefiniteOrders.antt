-- The lines of a request are definite, and so it ends in one.
use Rattle.std.proofs.Common.{◌≡◌, Ok, Err, refl, ap}
use Rattle.denials.proofs.DefiniteOrders.{Definite, err-inj, ok-err, ok-inj}
use Rattle.http_messages.specs.declared.faults.Fault.{Fault}
use Rattle.http_messages.specs.Orders.{Order, found, lacks, find}
use Rattle.http_messages.specs.Request.{Request, fault, Ends, commands, refuses}

pub find-definite : {A : Type 0} (why : Fault) (P : A → Type 0) → ((a b : A) → P a → P b → a ≡ b) → Definite (find why P)
find-definite why P one _ _ (found {a} p) (found {a = b} q) = ap (λ x. Ok x) (one a b p q)
find-definite why P one _ _ (found {a} p) (lacks q) = absurd (q a p)
find-definite why P one _ _ (lacks p) (found {a} q) = absurd (p a q)
find-definite why P one _ _ (lacks p) (lacks q) = refl

-- a definite order ends in one request
pub one-end : (m : Order Request) → Definite m → (a b : Request) → Ends m a → Ends m b → a ≡ b
one-end m one a b (commands h) (commands g) = ok-inj a b (one (Ok a) (Ok b) h g)
one-end m one a _ (commands h) (refuses {why} g) = absurd (ok-err a why (one (Ok a) (Err why) h g))
one-end m one _ b (refuses {why} h) (commands g) = absurd (ok-err b why (one (Ok b) (Err why) g h))
one-end m one _ _ (refuses {why} h) (refuses {why = other} g) = ap fault (err-inj why other (one (Err why) (Err other) h g))
