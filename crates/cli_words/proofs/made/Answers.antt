use Rattle.cli_words.proofs.made.Goals as goal

pub returns : goal.returns
returns c = c.with.ensures _ (c.with-command.ensures _ c.bare-command.ensures)
