use Rattle.std.proofs.Common.{codes, subst}
use Rattle.canonical_json.specs.Json.{Json}
use Rattle.drafting.specs.Members.{Puts}
use Rattle.drafting.proofs.Listings.{put_over}
use Rattle.drafting.proofs.Results.{on_ok}
use Rattle.drafting.proofs.Rows.{shown}
use Rattle.drafting.proofs.snapshots.put_meta.Goals as goal

pub returns : goal.returns
returns c =
    let a = shown c.args.members.now.items in
    let b = shown c.take_object-meta.new.members.items in
    let d = shown c.put.new.members.items in
    let new = shown c.put_roles.new.meta.items in
    on_ok _ _ c.put.result c.put.ensures.puts (λ put.
    let is = subst (λ (x : Json). Puts (codes "meta") x b d) c.object_value.ensures put in
    record {
      lists = record {
        old = shown c.take_object-meta.result.items;
        new = new;
        was = c.take_object-meta.ensures.object;
        meta = is.has;
        puts = c.in_ok-put_roles.ensures;
      };
      others = (put_over (codes "meta") new a b d c.take_object-meta.ensures.others is).others;
    })
