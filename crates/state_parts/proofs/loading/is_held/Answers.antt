use Rattle.std.proofs.Common.{sym}
use Rattle.std.proofs.lemmas.Bool.{true≢false}
use Rattle.metadata.specs.FileViews.{root_file}
use Rattle.state_parts.specs.Views.{effects_view}
use Rattle.trust_rules.proofs.RootChains.{holds_under, chain_under, timestamp_under, snapshot_under}
use Rattle.state_parts.proofs.loading.is_held.Goals as goal

pub returns-then-not-is_chain : goal.returns-then-not-is_chain
returns-then-not-is_chain c =
    let E = effects_view c.args.files.now in
    let tells = rw c.deref.ensures.value at c.if-not-is_chain.ensures in (
      (λ t. absurd (true≢false (sym t))),
      (λ held. absurd (true≢false (sym (tells.1 (chain_under E (root_file c.args.root.now) c.requires.last held))))),
    )

pub returns-then-not-timestamp_meets : goal.returns-then-not-timestamp_meets
returns-then-not-timestamp_meets c =
    let E = effects_view c.args.files.now in (
      (λ t. absurd (true≢false (sym t))),
      (λ held. absurd (true≢false (sym (c.if-not-timestamp_meets.ensures.1 (timestamp_under E (root_file c.args.root.now) held))))),
    )

pub returns : goal.returns
returns c =
    let E = effects_view c.args.files.now in
    let tells = rw c.deref.ensures.value at c.is_chain.ensures in (
      (λ t. holds_under E (root_file c.args.root.now) c.requires.read c.requires.last (tells.0 c.if-not-is_chain.false)
          (c.timestamp_meets.ensures.0 c.if-not-timestamp_meets.false) (c.snapshot_meets.ensures.0 t)),
      (λ held. c.snapshot_meets.ensures.1 (snapshot_under E (root_file c.args.root.now) held)),
    )
