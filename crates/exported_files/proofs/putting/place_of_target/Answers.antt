use Rattle.std.proofs.Common.{◌++◌, ◌∙◌, List, ℕ, ap, codes, string_bytes}
use Rattle.exported_files.proofs.putting.place_of_target.Goals as goal

pub returns : goal.returns
returns c = record {
  name = string_bytes c.in_ok-name.name;
  is_name = c.in_ok-name.ensures;
  is_place = c.in_ok-in_targets.ensures ∙ ap (λ (name : List ℕ). c.args.folder.now ++ (codes "/targets/" ++ name)) c.as_str.ensures.value;
}
