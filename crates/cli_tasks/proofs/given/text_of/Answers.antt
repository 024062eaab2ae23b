use Rattle.std.proofs.Common.{ap, sym, ◌∙◌, option_map, Some}
use Rattle.clap.specs.Words.{found_of}
use Rattle.cli_tasks.proofs.Lines.{found_first}
use Rattle.cli_tasks.proofs.given.text_of.Goals as goal

pub returns-in_ok-from_str-in-Some : goal.returns-in_ok-from_str-in-Some
returns-in_ok-from_str-in-Some c =
    found_first (found_of c.args.given.now) c.args.id.now c.get_str.result c.get_str.ensures ∙ ap (option_map (λ s. s.now)) c.in-Some.is
    ∙ ap Some (sym c.in_ok-from_str-in-Some.ensures.ok)
