use Rattle.std.proofs.Common.{◌≡◌, ◌∙◌, ◌≤◌, length, Some, ap, arith, map, option_map, sym}
use Rattle.std.proofs.lemmas.List.{length-map}
use Rattle.std.proofs.lemmas.Grind.{common_steps}
use Rattle.clap.specs.Words.{found_of}
use Rattle.clap.proofs.WalkLemmas.{raw_values-rows}
use Rattle.cli_tasks.proofs.given.texts_of.Goals as goal

pub returns : goal.returns
returns c =
    let found = c.in-Some.found.now in
    let texts = c.in_ok-texts.texts.items in
    let count : length texts ≡ length found = simp length-map at (ap length c.in_ok-texts.ensures) in
    let some : 1 ≤ length found = grind (arith, common_steps) in
    let all = sym (c.get_strs.ensures ∙ raw_values-rows (found_of c.args.given.now) c.args.id.now) ∙ ap (option_map (λ s. map (λ v. v.now) s.now)) c.in-Some.is in
    (all ∙ ap Some (sym c.in_ok-texts.ensures), omega arith, omega arith)
