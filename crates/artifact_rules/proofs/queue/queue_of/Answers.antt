use Rattle.std.proofs.Common.{rules, ◌≡◌, List, [], ◌∷◌, length, map, refl, subst, append-nil, arith}
use Rattle.document_parts.specs.Links.{Artifacts, side_of}
use Rattle.document_parts.specs.RuleViews.{link_view, rule_view, side_view}
use Rattle.artifact_rules.specs.Views.{links_view}
use Rattle.artifact_rules.specs.steps.Queue.{IsQueue, Queue, queue_view}
use Rattle.artifact_rules.proofs.queue.queue_of.Goals as goal

none_left : {A : Type 0} (xs : List A) → length xs ≡ 0 → xs ≡ []
none_left [] h = refl
none_left (x ∷ xs) h = absurd (omega (arith, h))

pub returns : goal.returns
returns c =
    let judged = c.args.judged.now in
    let Queued = IsQueue (side_view judged.side) (link_view judged.link.now) (links_view judged.links.now) (map rule_view c.args.rules.now) in
    let few : length c.rows.rest.now ≡ 0 = search rules in
    let rest = none_left c.rows.rest.now few in
    let last : Queued (map (λ r. (r.0, r.1.0)) c.rows.rest.now) [] = rw rest tt in
    let whole = c.rows.invariant [] last in
    let start : map (λ r. (r.0, r.1.0)) c.rows-rest.result.now ≡ side_of (side_view judged.side) (link_view judged.link.now) = search rules in
    subst (λ (rows : Artifacts). Queued rows (queue_view c.rows.queue.items)) start
    (subst (λ (q : Queue). Queued (map (λ r. (r.0, r.1.0)) c.rows-rest.result.now) q) (append-nil (queue_view c.rows.queue.items)) whole)
