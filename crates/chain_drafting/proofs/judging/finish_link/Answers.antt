use Rattle.canonical_json.specs.View.{view}
use Rattle.drafting.proofs.Results.{if_err}
use Rattle.drafting.proofs.Rows.{shown}
use Rattle.chain_drafting.proofs.LinkFiles.{unfit_part}
use Rattle.chain_drafting.proofs.judging.finish_link.Goals as goal

pub returns-clause-err : goal.returns-clause-err
returns-clause-err c =
    if_err _ _ c.link_bytes.result c.link_bytes.ensures.err (λ e h. unfit_part (view c.in_ok-file.file) (shown c.args.members.items) e c.in_ok-file.ensures h)
