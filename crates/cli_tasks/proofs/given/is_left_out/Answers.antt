use Rattle.std.proofs.Common.{ap, map, option_map, sym, ◌∙◌}
use Rattle.clap.specs.Words.{found_of}
use Rattle.clap.proofs.WalkLemmas.{raw_values-rows}
use Rattle.cli_tasks.proofs.given.is_left_out.Goals as goal

pub returns-in-None : goal.returns-in-None
returns-in-None c told =
    sym (c.get_strs.ensures ∙ raw_values-rows (found_of c.args.given.now) c.args.id.now) ∙ ap (option_map (λ s. map (λ v. v.now) s.now)) c.in-None.is
