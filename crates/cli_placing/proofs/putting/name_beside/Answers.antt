use Rattle.std.proofs.Common.{◌≡◌, ◌++◌, List, ℕ, ap, ◌∙◌, sym, true, false, bytes_eq}
use Rattle.std.proofs.lemmas.Slice.Eq.{bytes_eq-Decides}
use Rattle.cli_placing.specs.Puts.{in_folder, part_name}
use Rattle.cli_placing.proofs.putting.name_beside.Goals as goal

pub returns : goal.returns
returns c =
    let named : c.as_str.result.now ≡ part_name c.args.process c.args.number = c.as_str.ensures.value ∙ c.in_ok-name.ensures in
    record {
      folder = c.cut_at_last.result.0.now;
      own = c.cut_at_last.result.1.now;
      process = c.args.process;
      number = c.args.number;
      is_cut = c.cut_at_last.ensures;
      is_in_folder = c.in_ok-in_folder.ensures ∙ ap (λ (name : List ℕ). in_folder c.cut_at_last.result.0.now ++ name) (c.as_str-2.ensures.value ∙ c.in_ok-name.ensures);
      is_another = λ same.
          let alike : bytes_eq c.as_str.result.now c.cut_at_last.result.1.now ≡ true = (bytes_eq-Decides c.as_str.result.now c.cut_at_last.result.1.now).1 (named ∙ same) in
          let differ : bytes_eq c.as_str.result.now c.cut_at_last.result.1.now ≡ false = sym c.eq.ensures ∙ c.if-eq.false in
          cc;
    }
