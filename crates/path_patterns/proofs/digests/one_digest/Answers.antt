use Rattle.path_patterns.proofs.Digits.{digits_of_digest, digest_of_digits, one_digest}
use Rattle.path_patterns.proofs.digests.one_digest.Goals as goal

pub returns : goal.returns
returns c = record { spelled = digits_of_digest; read = digest_of_digits; one = one_digest }
