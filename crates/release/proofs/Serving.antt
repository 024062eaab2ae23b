-- What a server does one after the other.
use Rattle.std.proofs.Common.{Bool}
use Rattle.store.specs.Standing.{Standing}
use Rattle.release.specs.Serving.{ServedOver, asked, none, served}

pub then_over : (reads_only : Bool) (A B C : Standing) → ServedOver reads_only A B → ServedOver reads_only B C → ServedOver reads_only A C
then_over reads_only A B _ h none = h
then_over reads_only A B C h (asked {B = D} k keeps) = asked (then_over reads_only A B D h k) keeps
then_over reads_only A B C h (served {B = D} lines helds count k s) = served lines helds count (then_over reads_only A B D h k) s
