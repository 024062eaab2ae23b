use Rattle.std.proofs.Common.{◌≡◌, drop}
use Rattle.clap.specs.Words.{App}
use Rattle.cli_words.specs.Made.{Makes, with_words}
use Rattle.cli_words.proofs.options.with.Given as goal

-- what is left gives the whole
abbrev pub invariant-loop-word : goal.invariant-loop-word
invariant-loop-word l = (a : App) → Makes a l.fn.command → (b : App) × Makes b l.command × (with_words b (drop l.word-index l.words) ≡ with_words a l.words)
