-- Laws of heads within the limits.
use Rattle.std.proofs.Common.{◌≡◌, ℕ, ◌≤◌, List, ◌++◌, length, take, drop, sym, ap, ◌∙◌, arith, take-append-drop}
use lib.Seq.{take-append-le, take-append_seam}
use Rattle.httparse.specs.Grammar.{print_request, HasNoRequest}
use Rattle.http_messages.specs.Head.{HasNoHead}

-- a text that is `p` and then something, of which `front` is a front long enough, has `p` at the front
pub front_has : (front more p rest : List ℕ) → length p ≤ length front → front ++ more ≡ p ++ rest → front ≡ p ++ drop (length p) front
front_has front more p rest fits e =
    let whole : take (length p) front ≡ p = sym (take-append-le (length p) front more fits) ∙ ap (take (length p)) e ∙ take-append_seam p rest in
    sym (take-append-drop (length p) front) ∙ ap (λ l. l ++ drop (length p) front) whole

-- a head that fits the buffer stands in a full buffer, or nowhere
pub none_in_full : (buf more : List ℕ) → length buf ≡ 8192 → HasNoRequest buf → HasNoHead (buf ++ more)
none_in_full buf more full none h rest heads =
    none h (drop (length (print_request h)) buf) (heads.reads.0, front_has buf more (print_request h) rest (omega (arith, heads.small.bytes, full)) heads.reads.1)
