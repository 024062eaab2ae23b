use Rattle.std.proofs.Common.{◌∙◌, ◌∷◌, [], List, ap, arith, refl, subst, sym}
use Rattle.std.proofs.lemmas.List.{map-append}
use Rattle.std.proofs.lemmas.Result.{err_from_is_err_and}
use Rattle.std.specs.Prelude.{IsSome}
use Rattle.std.specs.List.{AllByRecursion}
use Rattle.metadata.specs.File.{Bytes}
use Rattle.document_parts.specs.Views.{root_view}
use Rattle.delegations.specs.Views.{shelf_view}
use Rattle.path_patterns.specs.declared.Digest.{Digest}
use Rattle.layouts.proofs.Lists.{none_left}
use Rattle.trusted_state.specs.Answers.{forgoes, gives}
use Rattle.trust_rules.specs.Held.{length_at, bytes_at}
use Rattle.trust_rules.specs.Grants.{support}
use Rattle.granting.specs.steps.Permitting.{all_bytes_at}
use Rattle.trust_rules.proofs.EachInTurn.{Follows, follows_end, follows_first, follows_next, more_all}
use Rattle.trusted_state.proofs.OrderSteps.{given_by}
use Rattle.granting.proofs.TargetFiles.{each_denied}
use Rattle.granting.proofs.supporting.supports.Goals as goal

pub paths-init : goal.paths-init
paths-init c = record {
  each = λ S valid is. rw (c.new-found.ensures.items) (follows_first (support S (root_view c.args.root.now) (shelf_view c.args.shelf.now) c.args.now) c.args.paths.now);
  there = rw (c.new-found.ensures.items) tt;
  grows = omega arith;
  free = λ few complete. refl;
}

pub returns-in_err-digest-clause-answer : goal.returns-in_err-digest-clause-answer
returns-in_err-digest-clause-answer c S valid is =
    let p = err_from_is_err_and c.from_residual.result c.from_residual.ensures.1 in
    rw (p.1, p.2) (each_denied (support S (root_view c.args.root.now) (shelf_view c.args.shelf.now) c.args.now) _ _ _ _ _ c.in-Some.ensures.cases.0 (c.paths.invariant.each S valid is) (c.in_err-digest.ensures.answer S valid is))

pub paths-preserved : goal.paths-preserved
paths-preserved c = record {
  each = λ S valid is.
      subst (λ (bs : List Bytes). Follows (support S (root_view c.args.root.now) (shelf_view c.args.shelf.now) c.args.now) c.args.paths.now c.in-Some.later.now bs)
      (sym (ap (all_bytes_at S) c.in_ok-push.ensures.items ∙ map-append (λ (d : Digest). bytes_at S d.0) c.paths.found.items (c.in_ok-digest.digest ∷ [])))
      (follows_next (support S (root_view c.args.root.now) (shelf_view c.args.shelf.now) c.args.now) c.args.paths.now c.paths.rest.now c.in-Some.later.now c.in-Some.path.now (all_bytes_at S c.paths.found.items) _ c.in-Some.ensures.cases.0
      (given_by (c.in_ok-digest.ensures.answer S valid is)) (c.paths.invariant.each S valid is));
  there = subst (λ (ds : List Digest). AllByRecursion (λ d. IsSome (length_at c.args.held.now.held.blobs d.0)) ds) (sym c.in_ok-push.ensures.items)
      (more_all (λ (d : Digest). IsSome (length_at c.args.held.now.held.blobs d.0)) c.paths.found.items c.in_ok-digest.digest c.paths.invariant.there c.in_ok-digest.ensures.held);
  grows = omega (arith, c.paths.invariant.grows, c.in_ok-digest.ensures.grows);
  free = λ few complete. c.in_ok-digest.ensures.free few complete ∙ c.paths.invariant.free few complete;
}

pub returns-clause-answer : goal.returns-clause-answer
returns-clause-answer c S valid is =
    gives (follows_end (support S (root_view c.args.root.now) (shelf_view c.args.shelf.now) c.args.now) c.args.paths.now c.paths.rest.now (all_bytes_at S c.paths.found.items) (none_left c.paths.rest.now c.in_default.ensures.cases) (c.paths.invariant.each S valid is))

pub returns-in_err-push-clause-answer : goal.returns-in_err-push-clause-answer
returns-in_err-push-clause-answer c S valid is =
    let p = err_from_is_err_and c.from_residual-in_err-push.result c.from_residual-in_err-push.ensures.1 in
    rw (p.1, p.2) (forgoes)
