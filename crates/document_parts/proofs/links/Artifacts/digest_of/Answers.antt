use Rattle.std.proofs.Common.{rules, Ok, Err, sym, ◌∙◌}
use Rattle.std.proofs.lemmas.Fn.{always_returns_same}
use Rattle.document_parts.proofs.DigestRows.{digest_at}
use Rattle.document_parts.proofs.Halving.{order}
use Rattle.document_parts.proofs.links.Artifacts.digest_of.Goals as goal

pub returns-in-Ok : goal.returns-in-Ok
returns-in-Ok c =
    let q = c.args.path.now in
    let place = c.in-Ok.ensures.position (order (λ r. r.0) q) (always_returns_same _ _ _ (λ a r f' k. search rules)) in
    sym (digest_at q _ _ c.as_slice-rows.ensures.value c.args.self.now.in_order (Ok c.in-Ok.at) c.in-Ok.ensures.bound place c.index-rows-at.result ∙ search rules)

pub returns-in-Err : goal.returns-in-Err
returns-in-Err c =
    let q = c.args.path.now in
    let place = c.in-Err.ensures.position (order (λ r. r.0) q) (always_returns_same _ _ _ (λ a r f' k. search rules)) in
    sym (digest_at q _ _ c.as_slice-rows.ensures.value c.args.self.now.in_order (Err c.in-Err.field-0) c.in-Err.ensures.bound place)
