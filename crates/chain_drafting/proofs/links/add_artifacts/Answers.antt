use Rattle.std.proofs.Common.{◌≡◌, ℕ, List, [], ◌∷◌, string_bytes, rules, sym, subst}
use Rattle.canonical_json.specs.Json.{Json}
use Rattle.canonical_json.specs.View.{view}
use Rattle.drafting.specs.Members.{Puts, PutsAll}
use Rattle.drafting.specs.Targets.{hashes}
use Rattle.drafting.proofs.Lists.{puts_more, puts_none}
use Rattle.drafting.proofs.Results.{no_rows}
use Rattle.drafting.proofs.Rows.{shown}
use Rattle.chain_drafting.specs.Links.{artifact_rows}
use Rattle.chain_drafting.specs.declared.links.Artifact.{Artifact}
use Rattle.chain_drafting.specs.steps.Said.{artifacts_view}
use Rattle.chain_drafting.proofs.links.add_artifacts.Goals as goal

pub artifacts-preserved : goal.artifacts-preserved
artifacts-preserved c =
    λ d more.
    let m = shown c.artifacts.rows.items in
    let a = shown c.put.new.members.items in
    let artifact = c.in-Some.artifact.now in
    let later = c.in-Some.later.now in
    let is : c.artifacts.rest.now ≡ artifact ∷ later = search rules in
    let path = string_bytes artifact.path in
    let put = subst (λ (x : Json). Puts path x m a) c.in_ok-value.ensures (subst (λ (n : List ℕ). Puts n (view c.in_ok-value.value) m a) c.as_str.ensures.value c.in_ok-put.ensures.puts) in
    c.artifacts.invariant d (subst (λ (r : List Artifact). PutsAll (artifact_rows (artifacts_view r)) m d) (sym is)
    (puts_more (path, hashes artifact.digest.0) (artifact_rows (artifacts_view later)) m a d put more))

pub returns : goal.returns
returns c =
    let m = shown c.artifacts.rows.items in
    let none : c.artifacts.rest.now ≡ [] = no_rows c.artifacts.rest.now c.in_default.ensures.cases in
    c.artifacts.invariant m (subst (λ (r : List Artifact). PutsAll (artifact_rows (artifacts_view r)) m m) (sym none) (puts_none m))
