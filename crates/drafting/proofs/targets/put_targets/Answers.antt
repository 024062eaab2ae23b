use Rattle.std.proofs.Common.{codes, subst}
use Rattle.canonical_json.specs.Json.{Json}
use Rattle.drafting.specs.Members.{Puts}
use Rattle.drafting.proofs.Listings.{put_over}
use Rattle.drafting.proofs.Rows.{shown}
use Rattle.drafting.proofs.targets.put_targets.Goals as goal

pub returns-clause-ok : goal.returns-clause-ok
returns-clause-ok c =
    let a = shown c.args.members.now.items in
    let b = shown c.take_object-targets.new.members.items in
    let d = shown c.put.new.members.items in
    let new = shown c.add_all.new.targets.items in
    let is = subst (λ (x : Json). Puts (codes "targets") x b d) c.object_value.ensures c.in_ok-put.ensures.puts in
    record {
      makes = record {
        old = shown c.take_object-targets.result.items;
        between = shown c.remove_all.new.targets.items;
        new = new;
        was = c.take_object-targets.ensures.object;
        removes = c.in_ok-remove_all.ensures.ok;
        adds = c.in_ok-add_all.ensures;
        targets = is.has;
      };
      others = (put_over (codes "targets") new a b d c.take_object-targets.ensures.others is).others;
    }
