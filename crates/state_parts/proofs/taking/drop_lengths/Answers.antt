use Rattle.std.proofs.Common.{ap, sym, ◌∙◌, not, bytes_eq, rules}
use Rattle.std.proofs.lemmas.Fn.{filter_same}
use Rattle.std.specs.List.{list_any}
use Rattle.state_parts.specs.Views.{length_views, digest_views}
use Rattle.trust_rules.proofs.GoneKeys.{map_filter, without_is}
use Rattle.state_parts.proofs.taking.drop_lengths.Goals as goal

pub returns-clause-rows : goal.returns-clause-rows
returns-clause-rows c =
    let keys = digest_views c.args.gone.now in
    let left = filter_same _ (λ b. not (list_any (λ d. bytes_eq b.digest.0 d) keys)) _ (λ x b f' k. search rules) _ _ c.retain.ensures.filtered in
    ap length_views left
    ∙ map_filter (λ b. (b.digest.0, b.length)) (λ b. not (list_any (λ d. bytes_eq b.0 d) keys)) c.args.lengths.now.items
    ∙ sym (without_is bytes_eq (length_views c.args.lengths.now.items) keys)
