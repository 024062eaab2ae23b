use Rattle.std.proofs.Common.{codes, subst}
use Rattle.canonical_json.specs.Json.{Json}
use Rattle.drafting.specs.Members.{Puts}
use Rattle.drafting.proofs.Alike.{headed}
use Rattle.drafting.proofs.Rows.{shown}
use Rattle.drafting.proofs.head.put_head.Goals as goal

pub returns-clause-ok : goal.returns-clause-ok
returns-clause-ok c =
    let b = shown c.put_terms.new.members.items in
    let d = shown c.put.new.members.items in
    headed (shown c.args.members.now.items) b d c.args.version c.args.terms c.in_ok-put_terms.ensures.ok
    (subst (λ (x : Json). Puts (codes "version") x b d) c.number_value.ensures c.in_ok-put.ensures.puts)
