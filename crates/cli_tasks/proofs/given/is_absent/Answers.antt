use Rattle.std.proofs.Common.{ap, ◌∙◌, option_map}
use Rattle.clap.specs.Words.{found_of}
use Rattle.cli_tasks.proofs.Lines.{found_first}
use Rattle.cli_tasks.proofs.given.is_absent.Goals as goal

pub returns-in-None : goal.returns-in-None
returns-in-None c told = found_first (found_of c.args.given.now) c.args.id.now c.get_str.result c.get_str.ensures ∙ ap (option_map (λ s. s.now)) c.in-None.is
