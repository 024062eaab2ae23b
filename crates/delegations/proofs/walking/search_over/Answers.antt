use Rattle.std.proofs.Common.{subst}
use Rattle.metadata.specs.File.{Bytes}
use Rattle.delegations.specs.Search.{Shelf}
use Rattle.delegations.specs.Verdicts.{Table}
use Rattle.delegations.specs.Views.{shelf_view, table_view}
use Rattle.delegations.specs.steps.Remains.{IsAt, all_left}
use Rattle.delegations.proofs.Onward.{starts, ends_unfound}
use Rattle.delegations.proofs.walking.search_over.Goals as goal

pub enter-requires-clause-before : goal.enter-requires-clause-before
enter-requires-clause-before c =
    rw (c.requires.no_checks, c.top-top.ensures, c.new-frames.ensures, c.requires.no_visits) (starts (shelf_view c.args.shelf.now) c.args.query.now.path.now c.args.query.now.moment (table_view c.args.query.now.known.now))

pub returns-clause-answer : goal.returns-clause-answer
returns-clause-answer c =
    let V : Shelf = shelf_view c.args.shelf.now in
    let path : Bytes = c.args.query.now.path.now in
    let T : Table = table_view c.args.query.now.known.now in
    (ends_unfound V path c.args.query.now.moment T c.frames.checks c.frames.visited
    (subst (λ fs. IsAt V path c.args.query.now.moment T c.frames.checks (all_left path fs) c.frames.visited) c.in_default.ensures.0 c.frames.invariant.at)).0

pub returns-clause-costs : goal.returns-clause-costs
returns-clause-costs c =
    let V : Shelf = shelf_view c.args.shelf.now in
    let path : Bytes = c.args.query.now.path.now in
    let T : Table = table_view c.args.query.now.known.now in
    (ends_unfound V path c.args.query.now.moment T c.frames.checks c.frames.visited
    (subst (λ fs. IsAt V path c.args.query.now.moment T c.frames.checks (all_left path fs) c.frames.visited) c.in_default.ensures.0 c.frames.invariant.at)).1

pub returns-clause-made : goal.returns-clause-made
returns-clause-made c =
    let V : Shelf = shelf_view c.args.shelf.now in
    let path : Bytes = c.args.query.now.path.now in
    let T : Table = table_view c.args.query.now.known.now in
    (ends_unfound V path c.args.query.now.moment T c.frames.checks c.frames.visited
    (subst (λ fs. IsAt V path c.args.query.now.moment T c.frames.checks (all_left path fs) c.frames.visited) c.in_default.ensures.0 c.frames.invariant.at)).2
