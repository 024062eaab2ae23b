use Rattle.std.proofs.Common.{ap, sym, map}
use Rattle.std.proofs.lemmas.Bool.{true≢false}
use Rattle.std.proofs.lemmas.List.{length-map}
use Rattle.metadata.specs.FileViews.{root_file}
use Rattle.trust_rules.proofs.RootChains.{follow_fails, follow_goes, follow_ends}
use Rattle.state_parts.proofs.loading.follow_on.Goals as goal

pub returns-then-not-follows_root : goal.returns-then-not-follows_root
returns-then-not-follows_root c =
    follow_fails (root_file c.roots.old.now) (root_file c.in-Some.new.now) (map root_file c.in-Some.more.now) (map root_file c.roots.rest.now) _
    (ap (map root_file) c.in-Some.ensures.cases.0) (λ b. true≢false (sym (c.if-not-follows_root.ensures.1 b))) c.roots.invariant

pub roots-preserved : goal.roots-preserved
roots-preserved c =
    follow_goes (root_file c.roots.old.now) (root_file c.in-Some.new.now) (map root_file c.in-Some.more.now) (map root_file c.roots.rest.now) _
    (ap (map root_file) c.in-Some.ensures.cases.0) (c.follows_root.ensures.0 c.if-not-follows_root.false) c.roots.invariant

pub returns : goal.returns
returns c =
    follow_ends (root_file c.roots.old.now) (map root_file c.roots.rest.now) _ (simp length-map c.in_default.ensures.cases) c.roots.invariant
