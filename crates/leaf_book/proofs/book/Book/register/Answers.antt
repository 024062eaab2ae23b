use Rattle.std.proofs.Common.{ℕ, List, ap, ◌∙◌}
use Rattle.keys_roles.specs.Keys.{id_of}
use Rattle.keys_roles.specs.Plain.{lms}
use Rattle.leaf_book.proofs.book.Book.register.Goals as goal

pub enter-result-requires : goal.enter-result-requires
enter-result-requires g c = c.key_by-key.ensures ∙ ap (λ (p : List ℕ). id_of (lms p)) c.public_of.ensures
