use Rattle.std.proofs.Common.{ℕ, List, ap, ◌∙◌}
use Rattle.keys_roles.specs.Keys.{id_of}
use Rattle.keys_roles.specs.Plain.{lms}
use Rattle.signer.proofs.files.id_of.Goals as goal

pub returns-in-Ok : goal.returns-in-Ok
returns-in-Ok c = c.in-Ok.ensures ∙ ap (λ (public : List ℕ). id_of (lms public)) c.public.ensures
