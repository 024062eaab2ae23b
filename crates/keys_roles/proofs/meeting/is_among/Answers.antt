use Rattle.keys_roles.proofs.Elements.{any_in}
use Rattle.keys_roles.proofs.meeting.is_among.Goals as goal

pub returns : goal.returns
returns c =
    let told = any_in c.args.tops.now c.args.top.now in
    (λ t. told.0 (rw (← c.contains.ensures.value) t), λ h. rw (c.contains.ensures.value) (told.1 h))
