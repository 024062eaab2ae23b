use Rattle.signer.proofs.Rivals.{compared}
use Rattle.signer.proofs.versions.same_member.Goals as goal

pub returns : goal.returns
returns c v w cv cw =
    compared c.one_spelling.ensures.one_value v w c.args.one.now c.args.other.now c.args.name.now c.in-Some.first.now c.in-Some-member.second.now c.is_same.result cv cw
    (c.in-Some.ensures.found v cv) (c.in-Some-member.ensures.found w cw) c.is_same.ensures
