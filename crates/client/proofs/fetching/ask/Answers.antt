use Rattle.std.proofs.Common.{None}
use Rattle.trust_rules.specs.Runs.{Target}
use Rattle.client.proofs.OneFile.{undamaged, unoffered}
use Rattle.client.proofs.Replied.{target_asked, target_reply}
use Rattle.client.proofs.fetching.ask.Goals as goal

pub asked_of-requires : goal.asked_of-requires
asked_of-requires g c =
    let (S, at) = c.stands.ensures.somewhere in
    target_reply c.replies_tell.ensures.targets _ _ c.as_str.result.now c.args.now c.in-Ok.reply S at c.in-Ok.ensures.makes

pub unmade-requires : goal.unmade-requires
unmade-requires g c = undamaged _ _ (Target c.as_str.result.now None) c.args.now c.in-Err.fault c.in-Err.ensures.makes

pub returns-in-Ok : goal.returns-in-Ok
returns-in-Ok g c = target_asked c.replies_tell.ensures.targets _ _ c.as_str.result.now c.args.path.now c.args.now c.in-Ok.reply c.asked_of.result c.in-Ok.ensures.makes c.asked_of.ensures c.as_str.ensures.value

pub returns-in-Err : goal.returns-in-Err
returns-in-Err g c = (unoffered _ _ (Target c.as_str.result.now None) c.args.now c.in-Err.fault c.in-Err.ensures.makes, c.unmade.ensures.unmade)
