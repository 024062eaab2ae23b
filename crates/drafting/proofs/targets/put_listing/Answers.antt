use Rattle.std.proofs.Common.{ℕ, List, ◌∷◌, [], string_bytes, subst}
use Rattle.canonical_json.specs.Json.{Json}
use Rattle.drafting.specs.Members.{AlikeBut, IsObjectAt, Puts}
use Rattle.drafting.proofs.Listings.{put_over}
use Rattle.drafting.proofs.Results.{on_ok}
use Rattle.drafting.proofs.Rows.{shown}
use Rattle.drafting.proofs.targets.put_listing.Goals as goal

pub returns : goal.returns
returns c =
    let path = string_bytes c.args.said.now.path in
    let a = shown c.args.targets.now.items in
    let b = shown c.take_object-listing.new.members.items in
    let d = shown c.put.new.members.items in
    let old = shown c.take_object-listing.result.items in
    let new = shown c.put_said.new.listing.items in
    on_ok _ _ c.put.result c.put.ensures.puts (λ put. record {
      old = old;
      new = new;
      was = subst (λ (n : List ℕ). IsObjectAt a n old) c.as_str.ensures.value c.take_object-listing.ensures.object;
      puts = put_over path new a b d (subst (λ (n : List ℕ). AlikeBut (n ∷ []) a b) c.as_str.ensures.value c.take_object-listing.ensures.others)
          (subst (λ (n : List ℕ). Puts n new b d) c.as_str-2.ensures.value (subst (λ (x : Json). Puts c.as_str-2.result.now x b d) c.object_value.ensures put));
      listing = c.in_ok-put_said.ensures;
    })
