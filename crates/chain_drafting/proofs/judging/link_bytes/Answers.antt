use Rattle.canonical_json.specs.View.{view}
use Rattle.chain_drafting.proofs.LinkFiles.{shape_unfit}
use Rattle.chain_drafting.proofs.judging.link_bytes.Goals as goal

pub returns-in-Err-clause-err : goal.returns-in-Err-clause-err
returns-in-Err-clause-err c = shape_unfit (view c.args.file.now) c.in-Err.fault c.in-Err.ensures.err
