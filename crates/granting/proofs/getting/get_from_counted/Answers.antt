use Rattle.granting.proofs.GrantedFrom.{finds_serves, load_refuses, refuses_so}
use Rattle.granting.proofs.LoadedFiles.{became_by, found_by, stands_so, still_stands}
use Rattle.granting.proofs.ServedFrom.{load_lists, served_so}
use Rattle.granting.proofs.ShortFiles.{shape_denial}
use Rattle.granting.proofs.getting.get_from_counted.Goals as goal

pub returns-in-Ok-clause-answer : goal.returns-in-Ok-clause-answer
returns-in-Ok-clause-answer g c honest S stands =
    let before = c.load.ensures.reads.was honest in
    served_so c.in-Ok.digest.0 c.load.result S c.load.ensures.loads c.in-Ok.ensures.held honest (still_stands (c.permitted.ensures.reads.stays before) stands) (found_by (stands_so S c.in-Ok.ensures.stands before stands))

pub returns-in-Err-clause-answer : goal.returns-in-Err-clause-answer
returns-in-Err-clause-answer g c honest S stands = finds_serves c.in-Err.fault (stands_so S c.in-Err.ensures.stands honest stands)

pub returns-in-Ok-clause-denial : goal.returns-in-Ok-clause-denial
returns-in-Ok-clause-denial g c = load_refuses _ _ (g.B.Blobs.Holds c.permitted.new.blobs) _ _ _ _ _ c.in-Ok.digest.0 c.load.result c.load.ensures.loads

pub returns-in-Err-clause-denial : goal.returns-in-Err-clause-denial
returns-in-Err-clause-denial g c = refuses_so _ _ c.in-Err.fault c.in-Err.ensures.stands

pub returns-in-Ok-clause-becomes : goal.returns-in-Ok-clause-becomes
returns-in-Ok-clause-becomes g c = became_by g.met.B.Blobs.becomes_on _ _ _ c.permitted.ensures.reads.becomes c.load.ensures.reads.becomes

pub returns-in-Err-clause-becomes : goal.returns-in-Err-clause-becomes
returns-in-Err-clause-becomes g c = c.permitted.ensures.reads.becomes

pub returns-in-Ok-clause-long : goal.returns-in-Ok-clause-long
returns-in-Ok-clause-long g c S valid is long = absurd (c.in-Ok.ensures.long S valid is long).1

pub returns-in-Err-clause-long : goal.returns-in-Err-clause-long
returns-in-Err-clause-long g c S valid is long = let refused = c.in-Err.ensures.long S valid is long in (refused.0, shape_denial (Unit {0}) (Unit {0}) c.in-Err.fault refused.1)

pub returns-in-Ok-clause-lists : goal.returns-in-Ok-clause-lists
returns-in-Ok-clause-lists g c = load_lists _ (g.B.Blobs.Holds c.permitted.new.blobs) c.in-Ok.digest.0 c.load.result c.in-Ok.ensures.lists c.load.ensures.loads
