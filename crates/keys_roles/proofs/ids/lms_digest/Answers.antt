use Rattle.std.proofs.Common.{◌++◌, ap, ◌∙◌}
use Rattle.sha2.specs.Sha256.{sha256}
use Rattle.keys_roles.proofs.KeyObjects.{lms_bytes_are, before_digits, behind_lms}
use Rattle.keys_roles.proofs.ids.lms_digest.Goals as goal

pub returns : goal.returns
returns c =
    c.digest_around.ensures ∙ ap (λ d. sha256 ((before_digits ++ d) ++ behind_lms)) c.lms_digits.ensures ∙ ap sha256 (lms_bytes_are c.args.public.now)
