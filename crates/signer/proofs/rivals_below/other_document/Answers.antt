use Rattle.keys_roles.specs.Views.{entries_view}
use Rattle.signer.proofs.Rivals.{signed_canonical}
use Rattle.signer.proofs.rivals_below.other_document.Goals as goal

pub rival_below-requires : goal.rival_below-requires
rival_below-requires g c = signed_canonical c.args.file.now (entries_view c.in-Ok.signed.signatures.items) c.in-Ok.signed.signed.now c.in-Ok.ensures.file
