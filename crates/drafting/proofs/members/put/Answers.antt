use Rattle.std.proofs.Common.{List, sym, subst}
use Rattle.canonical_json.specs.Json.{names}
use Rattle.canonical_json.specs.Spelling.{AreRising}
use Rattle.canonical_json.specs.View.{members_view, view}
use Rattle.drafting.specs.Members.{Puts}
use Rattle.drafting.proofs.Rising.{put_rising}
use Rattle.drafting.proofs.Rows.{Row, put_in, shown}
use Rattle.drafting.proofs.members.put.Goals as goal

pub returns-clause-puts : goal.returns-clause-puts
returns-clause-puts c =
    subst (λ (l : List Row). Puts c.args.name.now (view c.args.value) (shown c.args.members.now.items) (shown l)) (sym c.in_ok-insert.ensures.items)
    (put_in (shown c.args.members.now.items) c.take_out.new.members.items c.place_for-at.result c.args.name.now (c.in_ok-name.name, c.args.value) c.in_ok-name.ensures.ok c.take_out.ensures.dropped)

pub returns-clause-rising : goal.returns-clause-rising
returns-clause-rising c =
    subst (λ (l : List Row). AreRising (names (members_view c.args.members.now.items)) → AreRising (names (members_view l))) (sym c.in_ok-insert.ensures.items)
    (put_rising c.args.members.now.items c.take_out.new.members.items c.deref.result.now c.place_for-at.result c.args.name.now (c.in_ok-name.name, c.args.value) c.in_ok-name.ensures.ok c.take_out.ensures.rest
    c.deref.ensures.value c.place_for-at.ensures.front c.place_for-at.ensures.behind c.take_out.ensures.dropped.none)
