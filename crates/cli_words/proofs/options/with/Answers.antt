use Rattle.std.proofs.Common.{◌≡◌, add-one, ℕ, ◌+◌, ◌<◌, List, length, get_or, drop, drop-cons, ap, refl, sym, ◌∙◌}
use Rattle.std.proofs.lemmas.List.{drop_all}
use Rattle.clap.specs.Words.{App, with_rule}
use Rattle.cli_words.specs.declared.options.Word.{Word}
use Rattle.cli_words.specs.Made.{rule_word, with_words}
use Rattle.cli_words.proofs.options.with.Goals as goal

one_more : (a : App) (ws : List Word) (i : ℕ) (d : Word) → i < length ws
    → with_words (with_rule a (rule_word (get_or ws i d))) (drop (i + 1) ws) ≡ with_words a (drop i ws)
one_more a ws i d within = rw (add-one i) (sym (ap (with_words a) (drop-cons ws i d within)))

pub loop-word-init : goal.loop-word-init
loop-word-init c a made = (a, made, refl)

pub loop-word-preserved : goal.loop-word-preserved
loop-word-preserved c a made =
    let at = c.loop-word.invariant a made in (
      _,
      c.with_one-command.ensures at.0 _ at.1 c.arg_of.ensures.rule,
      one_more at.0 c.args.words.now c.loop-word.word-index _ c.loop-word-test.true ∙ at.2,
    )

pub returns : goal.returns
returns c a made =
    let at = c.loop-word.invariant a made in
    let all = sym (ap (with_words at.0) (drop_all c.loop-word.word-index c.args.words.now c.loop-word-test.false)) ∙ at.2 in
    rw (← all) at.1
