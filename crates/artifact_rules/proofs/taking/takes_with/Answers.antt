use Rattle.std.proofs.Common.{rules, ◌≡◌, Some, None}
use Rattle.path_patterns.specs.Matching.{MatchesFlat}
use Rattle.metadata.specs.File.{look_up}
use Rattle.document_parts.specs.Links.{side_of}
use Rattle.document_parts.specs.RuleViews.{link_view, match_view}
use Rattle.artifact_rules.specs.Rules.{link_of, path_in}
use Rattle.artifact_rules.specs.Views.{links_view}
use Rattle.artifact_rules.proofs.Matching.{no_match, not_there, found}
use Rattle.artifact_rules.proofs.taking.takes_with.Goals as goal

pub returns-then-not-matches_flat_text : goal.returns-then-not-matches_flat_text
returns-then-not-matches_flat_text c =
    let m = match_view c.args.rule.now in
    let here : c.args.path.now ≡ path_in m.from c.in-Some.rest.now = search rules in
    let no : MatchesFlat m.pattern c.in-Some.rest.now → ⊥ = search rules in
    no_match m (links_view c.args.links.now) c.args.path.now c.args.digest.now.0 c.in-Some.rest.now here no

pub returns-in-Some-digest_at : goal.returns-in-Some-digest_at
returns-in-Some-digest_at c =
    let m = match_view c.args.rule.now in
    let rest = c.in-Some.rest.now in
    let link = link_view c.in-Some-link_by.link.now in
    let other = c.in-Some-digest_at.other.now.0 in
    let here : c.args.path.now ≡ path_in m.from rest = search rules in
    let matches : MatchesFlat m.pattern rest = search rules in
    let step : link_of (links_view c.args.links.now) m.step ≡ Some link = search rules in
    let at : look_up (side_of m.side link) (path_in m.to rest) ≡ Some other = search rules in
    found m (links_view c.args.links.now) c.args.path.now c.args.digest.now.0 rest here link step matches other c.is_same.result at c.is_same.ensures

pub returns-in-None : goal.returns-in-None
returns-in-None c =
    let m = match_view c.args.rule.now in
    let rest = c.in-Some.rest.now in
    let link = link_view c.in-Some-link_by.link.now in
    let here : c.args.path.now ≡ path_in m.from rest = search rules in
    let step : link_of (links_view c.args.links.now) m.step ≡ Some link = search rules in
    let none : look_up (side_of m.side link) (path_in m.to rest) ≡ None = search rules in
    not_there m (links_view c.args.links.now) c.args.path.now c.args.digest.now.0 rest here link step none
