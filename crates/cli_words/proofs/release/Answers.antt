use Rattle.std.proofs.lemmas.Result.{IfOk-weaker}
use Rattle.cli_words.proofs.release.Goals as goal

pub returns : goal.returns
returns c = IfOk-weaker c.with_one.result _ _ (λ r made. made.0) (c.with_one.ensures _ _ (c.with_one-command-12.ensures _ _ (c.with_one-command-11.ensures _ _ (c.with_one-command-10.ensures _ _ (c.with_one-command-9.ensures _ _ (c.with_one-command-8.ensures _ _ (c.with_one-command-7.ensures _ _ (c.with_one-command-6.ensures _ _ (c.with_one-command-5.ensures _ _ (c.with_one-command-4.ensures _ _ (c.with_one-command-3.ensures _ _ (c.with_one-command-2.ensures _ _ (c.with_one-command.ensures _ _ (c.begun-command.ensures) c.made.ensures) c.made-2.ensures) c.made-3.ensures) c.made-4.ensures) c.made-5.ensures) c.made-6.ensures) c.made-7.ensures) c.made-8.ensures) c.made-9.ensures) c.made-10.ensures) c.made-11.ensures) c.made-12.ensures) c.made-13.ensures)
