use Rattle.std.proofs.Common.{ℕ, List, ap, ◌∙◌}
use Rattle.keys_roles.specs.Keys.{id_of}
use Rattle.keys_roles.specs.Plain.{hss}
use Rattle.signer.proofs.trees.hss_id.Goals as goal

pub returns-in-Ok : goal.returns-in-Ok
returns-in-Ok c = c.in-Ok.ensures ∙ ap (λ (public : List ℕ). id_of (hss public)) c.public.ensures
