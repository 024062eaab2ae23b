use Rattle.std.proofs.Common.{◌≡◌, ◌∙◌, ℕ, List, ap, map}
use Rattle.metadata.specs.File.{Bytes}
use Rattle.delegations.specs.Views.{row_views}
use Rattle.granting.specs.PartViews.{digest_views, length_views, trusted_view}
use Rattle.trust_rules.specs.State.{Trusted}
use Rattle.trust_rules.specs.steps.Pruning.{listed_rows, unlisted_places, unwanted_digests, without_listed}
use Rattle.trust_rules.proofs.PrunedEffects.{without_listed_is}
use Rattle.machine.proofs.pruning.unlisted.Goals as goal

pub returns : goal.returns
returns c =
    let H = c.args.held.now.held in
    let U : Trusted = trusted_view c.trusted-trusted.result.now in
    let view : U ≡ H.trusted = c.trusted-trusted.ensures.view in
    let rows : c.in_ok-rows.rows.items ≡ unlisted_places H.trusted.snapshot H.trusted.shelf =
    c.in_ok-rows.ensures ∙ ap (λ shelf. unlisted_places U.snapshot (row_views shelf)) c.deref.ensures.value ∙ ap (λ (T : Trusted). unlisted_places T.snapshot T.shelf) view in
    let left : length_views c.in_ok-left.left.items ≡ without_listed H.blobs (listed_rows H.trusted.snapshot H.trusted.shelf) =
    c.in_ok-left.ensures ∙ ap (λ shelf. without_listed (length_views c.lengths.result.now) (listed_rows U.snapshot (row_views shelf))) c.deref-2.ensures.value
    ∙ ap (λ (l : List (Bytes × ℕ)). without_listed l (listed_rows U.snapshot U.shelf)) c.lengths.ensures.view
    ∙ ap (λ (T : Trusted). without_listed H.blobs (listed_rows T.snapshot T.shelf)) view in
    let blobs : digest_views c.in_ok-blobs.blobs.items ≡ unwanted_digests (listed_rows H.trusted.snapshot H.trusted.shelf) H.blobs =
    c.in_ok-blobs.ensures ∙ ap (λ items. map (λ b. b.0) (length_views items)) c.deref-3.ensures.value
    ∙ ap (λ (l : List (Bytes × ℕ)). map (λ b. b.0) l) (left ∙ without_listed_is (listed_rows H.trusted.snapshot H.trusted.shelf) H.blobs) in
    λ i. record { rows = rows i; blobs = blobs i }
