use Rattle.std.proofs.Common.{rules, ◌≡◌, map, true, false, sym, ◌∙◌}
use Rattle.document_parts.specs.steps.Rising.{rises}
use Rattle.document_parts.proofs.Rising.{in_order_rises, rises_in_order}
use Rattle.document_parts.proofs.links.Artifacts.new.Goals as goal

pub returns-then-not-are_in_order-clause-none : goal.returns-then-not-are_in_order-clause-none
returns-then-not-are_in_order-clause-none c = λ ordered.
    let no : rises (map (λ r. r.0) c.args.rows.items) ≡ false = search rules in
    let both : true ≡ false = sym (in_order_rises (map (λ r. r.0) c.args.rows.items) ordered) ∙ no in
    absurd (cc)

pub invariant_of-result : goal.invariant_of-result
invariant_of-result c =
    let yes : rises (map (λ r. r.0) c.args.rows.items) ≡ true = search rules in
    record { in_order = rises_in_order (map (λ r. r.0) c.args.rows.items) yes }
