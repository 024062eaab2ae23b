use Rattle.std.proofs.Common.{◌≡◌, ◌⊎◌, ◌∙◌, inl, inr, List, ap, map, string_bytes, subst, sym}
use Rattle.clap.specs.Words.{IsAmong, Text, fault_of, is_simple, is_simple_and_free, kind_of, subcommand_of}
use Rattle.clap.specs.declared.error.kind.ErrorKind.{ErrorKind}
use Rattle.clap.specs.declared.error.kind.ErrorKind.TheVariants as kind
use Rattle.cli_words.specs.Subcommands.{release_line}
use Rattle.cli_tasks.specs.CommandLine.{AsksForHelp, Says}
use Rattle.cli_tasks.proofs.Lines.{line_is_free, line_is_simple}
use Rattle.cli_tasks.proofs.task.Goals as goal

pub returns-in-Ok-task_of-clause-task : goal.returns-in-Ok-task_of-clause-task
returns-in-Ok-task_of-clause-task c =
    let line = c.in_ok-command.ensures in
    let read = c.in-Ok.ensures.matches (ap is_simple line ∙ line_is_simple) in
    let rows = read.1 ∙ ap (λ a. subcommand_of a (map string_bytes c.args.words.now)) line in
    subst (λ l. Says l c.in-Ok-task_of.task) rows c.in-Ok-task_of.ensures

-- help is one of the kinds of fault that the words have
asked : (words : List Text) (is : ErrorKind) → (is ≡ kind.OutOfMemory) ⊎ IsAmong is (fault_of release_line words) → (is ≡ kind.DisplayHelp) ⊎ (is ≡ kind.DisplayVersion) → AsksForHelp words
asked words is (inl none) (inl help) = let same = sym help ∙ none in cc
asked words is (inl none) (inr version) = let same = sym version ∙ none in cc
asked words is (inr among) (inl help) = inr (inl (subst (λ k. IsAmong k (fault_of release_line words)) help among))
asked words is (inr among) (inr version) = inr (inr (subst (λ k. IsAmong k (fault_of release_line words)) version among))

pub returns-clause-help : goal.returns-clause-help
returns-clause-help c text is =
    let line = c.in_ok-command.ensures in
    let words = map (λ w. string_bytes w) c.args.words.now in
    let fails = c.in-Err.ensures.kinds (ap is_simple_and_free line ∙ line_is_free) in
    let kinds = subst (λ a. (kind_of c.in-Err.error ≡ kind.OutOfMemory) ⊎ IsAmong (kind_of c.in-Err.error) (fault_of a words)) line fails in
    asked words (kind_of c.in-Err.error) kinds (c.usage_of.ensures text (let same = is in cc))
