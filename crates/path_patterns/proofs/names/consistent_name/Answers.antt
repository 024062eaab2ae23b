use Rattle.std.proofs.Common.{List, ℕ, ◌++◌, sym, ap, subst, ◌∙◌}
use Rattle.std.specs.String.{string_bytes}
use Rattle.hex.specs.Hex.{encode_lower}
use Rattle.path_patterns.specs.Names.{IsConsistentName, IsCutAtLast}
use Rattle.path_patterns.proofs.ConsistentNames.{names, four_parts}
use Rattle.path_patterns.proofs.names.consistent_name.Goals as goal

pub returns : goal.returns
returns c =
    let cut = subst (λ (x : List ℕ). IsCutAtLast x c.cut_at_last.result.0.now c.cut_at_last.result.1.now) c.as_str.ensures.value c.cut_at_last.ensures in
    let written = four_parts (string_bytes c.in_ok-text.text) (string_bytes c.push_str.new.self) (string_bytes c.push_str-2.new.self) (string_bytes c.push_str-3.new.self) c.cut_at_last.result.0.now (encode_lower c.args.digest.now.0) c.cut_at_last.result.1.now
    c.in_ok-text.ensures.ok (c.in_ok-push_str.ensures.bytes ∙ ap (λ (x : List ℕ). string_bytes c.in_ok-text.text ++ x) (c.as_str-2.ensures.value ∙ c.in_ok-digits.ensures.value))
    c.in_ok-push_str-2.ensures.bytes c.in_ok-push_str-3.ensures.bytes in
    subst (λ (x : List ℕ). IsConsistentName x c.args.path.now c.args.digest.now.0) (sym written)
    (names c.args.path.now c.cut_at_last.result.0.now c.cut_at_last.result.1.now c.args.digest.now.0 c.as_str.ensures.path cut c.text.ensures.digest)
