use Rattle.std.proofs.Common.{◌∙◌, ◌∷◌, [], List, map, ap, subst, sym}
use Rattle.std.proofs.lemmas.List.{map-append}
use Rattle.std.proofs.lemmas.Result.{err_from_is_err_and}
use Rattle.std.specs.Prelude.{IsSome}
use Rattle.std.specs.List.{AllByRecursion}
use Rattle.metadata.specs.File as plain
use Rattle.metadata.specs.File.{link_form}
use Rattle.metadata.specs.FileViews.{link_file}
use Rattle.document_parts.specs.Links.{Link}
use Rattle.layouts.proofs.Lists.{none_left}
use Rattle.path_patterns.specs.declared.Digest.{Digest}
use Rattle.trust_rules.specs.Held.{length_at}
use Rattle.trust_rules.specs.Grants.{read_as}
use Rattle.granting.specs.steps.Permitting.{all_bytes_at, finds, forgoes}
use Rattle.trust_rules.proofs.EachInTurn.{Follows, follows_end, follows_first, follows_next}
use Rattle.granting.proofs.LoadedFiles.{each_finds, found_by, reads_none, reads_then, still_stands, told_err}
use Rattle.granting.proofs.supporting.read_links.Goals as goal

pub digests-init : goal.digests-init
digests-init g c = record {
  finds = λ honest H S stands there. (rw (c.new-links.ensures.items) (follows_first (read_as link_form) (all_bytes_at S c.args.digests.now)), there);
  reads = reads_none _;
  loaded = λ h. h;
}

pub returns-in_err-link-clause-finds : goal.returns-in_err-link-clause-finds
returns-in_err-link-clause-finds g c honest H S stands there =
    let p = err_from_is_err_and c.from_residual.result c.from_residual.ensures.1 in
    let before = c.read_link.ensures.reads.was honest in
    let (follows, left) = c.digests.invariant.finds before H S stands there in
    let here = subst (λ (ds : List Digest). AllByRecursion (λ d. IsSome (length_at H.blobs d.0)) ds) c.in-Some.ensures.cases.0 left in
    rw (p.1, p.2) (each_finds (read_as link_form) (all_bytes_at S c.args.digests.now) (all_bytes_at S c.digests.rest.now) (all_bytes_at S c.in-Some.later.now) _ _ c.in_err-link.field-0.0 (ap (all_bytes_at S) c.in-Some.ensures.cases.0)
    follows (c.in_err-link.ensures.finds honest H S (still_stands (c.digests.invariant.reads.stays before) stands) here.0))

pub returns-in_err-link-clause-reads : goal.returns-in_err-link-clause-reads
returns-in_err-link-clause-reads g c = reads_then g.met.B.Blobs.becomes_on _ _ _ c.digests.invariant.reads c.read_link.ensures.reads

pub returns-in_err-link-clause-told : goal.returns-in_err-link-clause-told
returns-in_err-link-clause-told g c was =
    let p = err_from_is_err_and c.from_residual.result c.from_residual.ensures.1 in
    rw (p.1, p.2) (told_err c.in_err-link.field-0.0 (λ h. h) c.in_err-link.ensures.told)

pub digests-preserved : goal.digests-preserved
digests-preserved g c =
    let later = c.in-Some.later.now in
    record {
      finds = λ honest H S stands there.
          let before = c.read_link.ensures.reads.was honest in
          let (follows, left) = c.digests.invariant.finds before H S stands there in
          let here = subst (λ (ds : List Digest). AllByRecursion (λ d. IsSome (length_at H.blobs d.0)) ds) c.in-Some.ensures.cases.0 left in (
            subst (λ (ls : List (plain.File Link)). Follows (read_as link_form) (all_bytes_at S c.args.digests.now) (all_bytes_at S later) ls)
                (sym (ap (map link_file) c.in_ok-push.ensures.items ∙ map-append link_file c.digests.links.items (c.in_ok-link.link ∷ [])))
                (follows_next (read_as link_form) (all_bytes_at S c.args.digests.now) (all_bytes_at S c.digests.rest.now) (all_bytes_at S later) _ (map link_file c.digests.links.items) (link_file c.in_ok-link.link)
                (ap (all_bytes_at S) c.in-Some.ensures.cases.0) (found_by (c.in_ok-link.ensures.finds honest H S (still_stands (c.digests.invariant.reads.stays before) stands) here.0)) follows),
            here.1,
          );
      reads = reads_then g.met.B.Blobs.becomes_on _ _ _ c.digests.invariant.reads c.read_link.ensures.reads;
      loaded = λ was. c.in_ok-link.ensures.told;
    }

pub returns-clause-finds : goal.returns-clause-finds
returns-clause-finds g c honest H S stands there =
    finds (follows_end (read_as link_form) (all_bytes_at S c.args.digests.now) (all_bytes_at S c.digests.rest.now) (map link_file c.digests.links.items)
    (ap (all_bytes_at S) (none_left c.digests.rest.now c.in_default.ensures.cases)) (c.digests.invariant.finds honest H S stands there).0)

pub returns-in_err-push-clause-finds : goal.returns-in_err-push-clause-finds
returns-in_err-push-clause-finds g c honest H S stands there =
    let p = err_from_is_err_and c.from_residual-in_err-push.result c.from_residual-in_err-push.ensures.1 in
    rw (p.1, p.2) (forgoes)

pub returns-in_err-push-clause-reads : goal.returns-in_err-push-clause-reads
returns-in_err-push-clause-reads g c = reads_then g.met.B.Blobs.becomes_on _ _ _ c.digests.invariant.reads c.read_link.ensures.reads
