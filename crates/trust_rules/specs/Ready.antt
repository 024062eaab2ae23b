-- When a batch would be taken, and when it would not.
use Rattle.std.specs.Prelude.{ℕ, List, Err, Ok}
use Rattle.denials.specs.Orders.{Denial}
use Rattle.metadata.specs.File.{Bytes}
use Rattle.trust_rules.specs.Offers as commands
use Rattle.trust_rules.specs.State.{Trusted}

-- the documents are taken together over what is trusted at the moment, by the machine's own relation
abbrev pub AreTaken : Trusted → List (commands.Offer × Bytes) → ℕ → Type 0
AreTaken T documents now = (B : commands.Batched) × commands.batch T documents now (Ok B)

-- they are not, and this is the first rule that fails, of the document at the index
abbrev pub AreDenied : Trusted → List (commands.Offer × Bytes) → ℕ → Denial → ℕ → Type 0
AreDenied T documents now d i = commands.batch T documents now (Err (d, i))
