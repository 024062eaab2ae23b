use Rattle.std.proofs.Common.{length, map}
use Rattle.canonical_json.specs.Json.{EachMember}
use Rattle.canonical_json.specs.Spelling.{IsSound}
use Rattle.canonical_json.specs.View.{members_view}
use Rattle.document_parts.specs.RuleViews.{link_view}
use Rattle.document_parts.proofs.Growing.{MembersGrow, MembersLeft}
use Rattle.verdicts.specs.RuleCase.{IsLinkOf}
use Rattle.verdicts.proofs.rule_text.links_of.Given as goal

abbrev pub invariant-members : goal.invariant-members
invariant-members l = record {
  grow : MembersGrow IsLinkOf (members_view l.fn.members) (members_view l.rest) (map link_view l.links.items);
  left : MembersLeft IsLinkOf (members_view l.fn.members) (members_view l.rest);
  proper : EachMember IsSound (members_view l.rest);
}

abbrev pub decreases-members : goal.decreases-members
decreases-members l = length l.rest
