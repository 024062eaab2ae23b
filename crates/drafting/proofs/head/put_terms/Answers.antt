use Rattle.std.proofs.Common.{ℤ, pos, w64, [], ◌∷◌, codes, string_bytes, subst, arith}
use Rattle.std.proofs.lemmas.Int.{to_z_pos}
use Rattle.canonical_json.specs.Json.{Json, integer, text}
use Rattle.drafting.specs.Members.{Puts}
use Rattle.drafting.proofs.Lists.{puts_more, puts_none}
use Rattle.drafting.proofs.Rows.{shown}
use Rattle.drafting.proofs.head.put_terms.Goals as goal

pub returns-clause-ok : goal.returns-clause-ok
returns-clause-ok c =
    let a = shown c.args.members.now.items in
    let b = shown c.put.new.members.items in
    let d = shown c.put-2.new.members.items in
    let t = string_bytes c.in_ok-text.text in
    let term = integer (pos c.args.terms.seconds) in
    let expires = subst (λ (x : Json). Puts (codes "expires") x a b) c.string_value.ensures c.in_ok-put.ensures.puts in
    let seconds = subst (λ (z : ℤ). Puts (codes "term") (integer z) b d) (to_z_pos w64 c.args.terms.seconds (omega arith))
    (subst (λ (x : Json). Puts (codes "term") x b d) c.integer_value.ensures c.in_ok-put-2.ensures.puts) in (
      t,
      c.in_ok-text.ensures.ok,
      puts_more (codes "expires", text t) ((codes "term", term) ∷ []) a b d expires (puts_more (codes "term", term) [] b d d seconds (puts_none d)),
    )
