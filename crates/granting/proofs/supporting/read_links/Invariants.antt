use Rattle.std.proofs.Common.{length, map}
use Rattle.std.specs.Prelude.{IsSome}
use Rattle.std.specs.List.{AllByRecursion}
use Rattle.metadata.specs.File.{link_form}
use Rattle.metadata.specs.FileViews.{link_file}
use Rattle.trust_rules.specs.Held.{Held, StandsFor, length_at}
use Rattle.trust_rules.specs.State.{State}
use Rattle.trust_rules.specs.Grants.{read_as}
use Rattle.granting.specs.steps.Permitting.{Reads, all_bytes_at}
use Rattle.trust_rules.proofs.EachInTurn.{Follows}
use Rattle.granting.proofs.supporting.read_links.Given as goal

abbrev pub invariant-digests : goal.invariant-digests
invariant-digests g l = record {
  finds : g.B.Blobs.IsHonest l.blobs → (H : Held) (S : State) → StandsFor H (g.B.Blobs.Holds l.fn.blobs) S → AllByRecursion (λ d. IsSome (length_at H.blobs d.0)) l.fn.digests
      → Follows (read_as link_form) (all_bytes_at S l.fn.digests) (all_bytes_at S l.rest) (map link_file l.links.items) × AllByRecursion (λ d. IsSome (length_at H.blobs d.0)) l.rest;
  reads : Reads g.B.Blobs.IsHonest g.B.Blobs.Holds g.B.Blobs.MayBecome l.fn.blobs l.blobs;
  loaded : g.B.Blobs.HasLoaded l.fn.blobs → g.B.Blobs.HasLoaded l.blobs;
}

abbrev pub decreases-digests : goal.decreases-digests
decreases-digests g l = length l.rest
