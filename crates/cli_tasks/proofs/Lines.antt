-- The command line as clap's definitions see it.
use Rattle.std.proofs.Common.{◌≡◌, ◌∙◌, List, ℕ, Bor, Option, true, refl, sym, option_map}
use Rattle.clap.specs.Words.{Text, first_of, first_value, is_simple, is_simple_and_free, rows_of}
use Rattle.clap.specs.declared.parser.matches.Found.{Found}
use Rattle.clap.proofs.OnLiterals.{clap_on_literals}
use Rattle.clap.proofs.WalkLemmas.{first_value-rows}
use Rattle.cli_words.specs.Subcommands.{release_line}

pub line_is_simple : is_simple release_line ≡ true
unfolding clap_on_literals
line_is_simple = refl

-- no argument has a rule on another
pub line_is_free : is_simple_and_free release_line ≡ true
unfolding clap_on_literals
line_is_free = refl

-- what is found for an argument, as `get_str` answers it
pub found_first : (found : Found) (id : Text) (given : Option (Bor (List ℕ))) → option_map (λ s. s.now) given ≡ first_value found id
    → first_of id (rows_of found) ≡ option_map (λ s. s.now) given
found_first found id given e = sym (e ∙ first_value-rows found id)
