use Rattle.std.proofs.Common.{◌≡◌, ◌∙◌, ℕ, ap, subst, sym, not, filter, bytes_eq, rules}
use Rattle.std.specs.Prelude.{IsTrue}
use Rattle.std.proofs.lemmas.Fn.{filter_same}
use Rattle.std.proofs.lemmas.List.Kept.{AllPairs-filter}
use Rattle.metadata.specs.File.{Bytes}
use Rattle.delegations.specs.Delegation.{before}
use Rattle.delegations.specs.Rows.{Rises}
use Rattle.trust_rules.specs.Held.{length_at}
use Rattle.granting.specs.PartViews.{length_views}
use Rattle.trust_rules.proofs.GoneKeys.{map_filter, none_there}
use Rattle.machine.proofs.pruning.leave_one_out.Goals as goal

pub returns-in_default-clause-left : goal.returns-in_default-clause-left
returns-in_default-clause-left c =
    sym (none_there bytes_eq (length_views c.args.left.now.items) c.args.digest.now.0
    (ap (λ items. length_at (length_views items) c.args.digest.now.0) (sym c.deref.ensures.value) ∙ sym c.length_of.ensures ∙ c.in_default.is))

left_is : (c : goal.After-retain) → length_views c.retain.new.self.items ≡ filter (λ b. not (bytes_eq b.0 c.args.digest.now.0)) (length_views c.args.left.now.items)
left_is c =
    ap length_views (filter_same _ (λ b. not (bytes_eq b.digest.0 c.args.digest.now.0)) _ (λ x b f' k. search rules) _ _ c.retain.ensures.filtered)
    ∙ map_filter (λ b. (b.digest.0, b.length)) (λ b. not (bytes_eq b.0 c.args.digest.now.0)) c.args.left.now.items

pub returns-clause-order : goal.returns-clause-order
returns-clause-order c =
    subst (Rises before) (sym (left_is c))
    (AllPairs-filter (λ (a b : Bytes × ℕ). IsTrue (before a.0 b.0)) (λ (b : Bytes × ℕ). not (bytes_eq b.0 c.args.digest.now.0)) (length_views c.args.left.now.items) c.requires)

pub returns-clause-left : goal.returns-clause-left
returns-clause-left c = left_is c
