use Rattle.std.proofs.Common.{◌∷◌, codes}
use Rattle.canonical_json.specs.Json.{array, no_items}
use Rattle.drafting.proofs.Lists.{puts_more}
use Rattle.drafting.proofs.Results.{on_ok}
use Rattle.drafting.proofs.Rows.{shown}
use Rattle.chain_drafting.specs.Layouts.{chain}
use Rattle.chain_drafting.specs.steps.Said.{steps_view}
use Rattle.chain_drafting.proofs.layouts.put_steps.Goals as goal

pub returns : goal.returns
returns c =
    let m = shown c.args.members.now.items in
    let a = shown c.put_keys.new.members.items in
    let b = shown c.put_names.new.members.items in
    let d = shown c.put_chain.new.members.items in
    let e = shown c.put_no_inspection.new.members.items in
    let keys = c.in_ok-put_keys.ensures in
    let names = c.in_ok-put_names.ensures in
    let steps = chain (steps_view c.args.steps.now) in
    on_ok _ _ c.put_no_inspection.result c.put_no_inspection.ensures (λ none. record {
      keys = keys.0;
      names = names.0;
      keyed = keys.1;
      named = names.1;
      more = λ rows end more.
          puts_more (codes "keys", keys.0) ((codes "names", names.0) ∷ (codes "steps", steps) ∷ (codes "inspect", array no_items) ∷ rows) m a end keys.2
          (puts_more (codes "names", names.0) ((codes "steps", steps) ∷ (codes "inspect", array no_items) ∷ rows) a b end names.2
          (puts_more (codes "steps", steps) ((codes "inspect", array no_items) ∷ rows) b d end c.in_ok-put_chain.ensures
          (puts_more (codes "inspect", array no_items) rows d e end none more)));
    })
