use Rattle.std.proofs.Common.{◌≡◌, ℕ, List, ◌++◌, false, sym, ◌∙◌, subst}
use Rattle.std.specs.Prelude.{bytes_eq, codes, decimal}
use Rattle.trusted_state.proofs.names.is_dotted.Goals as goal

pub returns-in_default-after : goal.returns-in_default-after
returns-in_default-after c =
    let digits : c.as_bytes-digits.result.now ≡ decimal c.args.number = c.as_bytes-digits.ensures.value ∙ c.format.ensures.text in
    let more : List ℕ = codes "." ++ (c.args.middle.now ++ codes ".json") in
    sym (subst (λ (d : List ℕ). bytes_eq (d ++ more) c.args.name.now ≡ false) digits
    (c.in-Some.ensures more ∙ (rw c.as_slice.ensures at (c.in_default-after.ensures (c.args.middle.now ++ codes ".json")))))
