use Rattle.std.proofs.Common.{ap, ◌∙◌, option_map}
use Rattle.clap.specs.Words.{found_of}
use Rattle.cli_tasks.proofs.Lines.{found_first}
use Rattle.cli_tasks.proofs.given.number_of.Goals as goal

pub returns-in-None : goal.returns-in-None
returns-in-None c = found_first (found_of c.args.given.now) c.args.id.now c.get_str.result c.get_str.ensures ∙ ap (option_map (λ s. s.now)) c.in-None.is

pub returns-in_ok-number-in-Some : goal.returns-in_ok-number-in-Some
returns-in_ok-number-in-Some c =
    let e = c.in_ok-number-in-Some.ensures in
    (c.in-Some.text.now, found_first (found_of c.args.given.now) c.args.id.now c.get_str.result c.get_str.ensures ∙ ap (option_map (λ s. s.now)) c.in-Some.is, e.0, e.1, e.2)
