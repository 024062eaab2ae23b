use Rattle.drafting.proofs.Results.{on_ok}
use Rattle.drafting.proofs.Rows.{shown}
use Rattle.chain_drafting.proofs.links.put_link.Goals as goal

pub returns : goal.returns
returns c =
    on_ok _ _ c.put_artifacts-2.result c.put_artifacts-2.ensures (λ last. record {
      between = shown c.put_artifacts.new.members.items;
      behind = shown c.put_name.new.members.items;
      materials_join = c.in_ok-put_artifacts.ensures;
      named = c.in_ok-put_name.ensures;
      products_join = last;
    })
