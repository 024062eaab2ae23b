-- Two lines of an order by themselves, as the first two of a longer one.
use Rattle.std.specs.Prelude.{Ok, Err}
use Rattle.denials.specs.Orders.{Order, decide, pass, ◌>>◌}
use Rattle.trusted_state.specs.Answers.{Gives, denies, forgoes}
use Rattle.trusted_state.specs.declared.refusal.Refusal.{Refusal}

pub first_of_two : {m n : Order (Unit {0})} → (m >> n) (Ok tt) → m (Ok tt)
first_of_two (pass h k) = h

pub second_of_two : {m n : Order (Unit {0})} → (m >> n) (Ok tt) → n (Ok tt)
second_of_two (pass h k) = k

pub denied_by_two : {A X Y : Type 0} {m n : Order (Unit {0})} {rest : Order A} {view : X → Unit {0}} {wide : Y → A} {r : Refusal}
    → Gives (m >> n) view (Err r) → Gives (m >> (n >> rest)) wide (Err r)
denied_by_two (denies (decide h)) = denies (decide h)
denied_by_two (denies (pass h k)) = denies (pass h (decide k))
denied_by_two forgoes = forgoes
