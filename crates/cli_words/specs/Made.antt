-- A command line while it is made.
use Rattle.std.specs.Prelude.{◌≡◌, false, IfOk, List, [], ◌∷◌, Result, Some}
use Rattle.clap.specs.Words.{App, Rule, app_of, with_rule}
use Rattle.clap.specs.declared.builder.command.Command.{Command}
use Rattle.clap.specs.declared.builder.command.Command.TheViews.{out-Command}
use Rattle.clap.specs.declared.builder.value_parser.ValueParser.TheVariants.{Unsigned}
use Rattle.cli_words.specs.Subcommands.{begun_line, flag_rule, many_rule, operand_rule, operands_rule, option_rule, required_rule, verbose_rule}
use Rattle.cli_words.specs.declared.options.Word.{Word}
use Rattle.cli_words.specs.declared.options.Word.TheVariants as words
use Rattle.cli_words.specs.declared.subcommands.Subcommand.{Subcommand}

-- where there was memory for the command, it is this one, and subcommands have none of its arguments
abbrev pub Makes : {E : Type 0} → App → Result Command E → Type 0
Makes a made = IfOk made (λ c. (app_of c ≡ a) × ((out-Command c).has_globals ≡ false))

-- an argument in the definitions of `clap`
abbrev pub rule_word : Word → Rule
rule_word (words.Option name value help) = option_rule name.now
rule_word (words.Required name value help) = required_rule (option_rule name.now)
rule_word (words.Number name value help least most) = record (option_rule name.now) { parser = Some (Unsigned least most) }
rule_word (words.RequiredNumber name value help least most) = record (required_rule (option_rule name.now)) { parser = Some (Unsigned least most) }
rule_word (words.Many name value help) = many_rule name.now
rule_word (words.Flag name help) = flag_rule name.now
rule_word (words.Operand name value help) = operand_rule name.now
rule_word (words.Operands name value help) = operands_rule name.now
rule_word words.Verbose = verbose_rule

-- a command with more arguments
abbrev pub with_words : App → List Word → App
with_words a [] = a
with_words a (w ∷ ws) = with_words (with_rule a (rule_word w)) ws

-- a subcommand with what each takes and with its own arguments
abbrev pub line_of : Subcommand → App
line_of s = with_words (begun_line s.name.now) s.words.now
