use Rattle.std.proofs.Common.{◌++◌, ap, ◌∙◌}
use Rattle.sha2.specs.Sha256.{sha256}
use Rattle.keys_roles.proofs.KeyObjects.{hss_bytes_are, before_digits, behind_hss}
use Rattle.keys_roles.proofs.ids.hss_digest.Goals as goal

pub returns : goal.returns
returns c =
    c.digest_around.ensures ∙ ap (λ d. sha256 ((before_digits ++ d) ++ behind_hss)) c.hss_digits.ensures ∙ ap sha256 (hss_bytes_are c.args.public.now)
