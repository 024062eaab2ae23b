use Rattle.std.proofs.Common.{ℕ, List, Result, ap, ap₂, subst, sym, ◌∙◌, ◌⊎◌}
use Rattle.keys_roles.specs.Keys.{id_of}
use Rattle.keys_roles.specs.Plain.{lms}
use Rattle.lms.specs.declared.Params.{Params}
use Rattle.lms.specs.declared.Seed.{Seed}
use Rattle.leaf_book.specs.declared.faults.BookFault.{BookFault}
use Rattle.leaf_plans.specs.Book.{Book, key_of}
use Rattle.leaf_book.specs.Calls.{Registers}
use Rattle.leaf_book.specs.Rows.{HoldsWhole}
use Rattle.leaf_book.proofs.book.Book.register_pair.Goals as goal

pub enter-result-requires : goal.enter-result-requires
enter-result-requires g c =
    c.key_by-key.ensures ∙ ap (λ (p : List ℕ). id_of (lms p)) c.public.ensures ∙ ap₂ key_of (sym c.seed.ensures) (sym c.params.ensures)

pub returns-clause-crash : goal.returns-clause-crash
returns-clause-crash g c clean was trees may =
    let old = c.args.self.now.book in
    let left = c.enter-result.ensures.crash clean was trees may in
    let by_seed = subst (λ (s : Seed). HoldsWhole trees old ⊎ ((r : Result (List ℕ) BookFault) × (b : Book) × Registers old s c.params.result r b × HoldsWhole trees b)) c.seed.ensures left in
    subst (λ (p : Params). HoldsWhole trees old ⊎ ((r : Result (List ℕ) BookFault) × (b : Book) × Registers old c.args.pair.now.seed p r b × HoldsWhole trees b)) c.params.ensures by_seed
