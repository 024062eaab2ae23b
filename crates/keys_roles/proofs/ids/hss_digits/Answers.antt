use Rattle.std.proofs.Common.{arith}
use Rattle.keys_roles.proofs.Signatures.{on_ok}
use Rattle.keys_roles.proofs.ids.hss_digits.Goals as goal

pub returns : goal.returns
returns c = on_ok c.encode_to_slice.result _ (c.encode_to_slice.ensures.fits.1 (omega (arith, c.told-public))) c.encode_to_slice.ensures.written
