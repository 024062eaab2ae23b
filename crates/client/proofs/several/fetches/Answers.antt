use Rattle.std.proofs.Common.{◌≡◌, [], Err, Result, false, true, ap, refl}
use Rattle.metadata.specs.File.{Bytes}
use Rattle.store.specs.Standing.{IsClean}
use Rattle.client.specs.Session.{Fetches}
use Rattle.client.specs.Several.{IsLast}
use Rattle.client.specs.Views.{Fault}
use Rattle.client.proofs.BySeveral.{from_first, trusts_less, turn_ends, turn_goes, turns_over}
use Rattle.client.proofs.Composing.{becomes}
use Rattle.client.proofs.several.fetches.Goals as goal

abbrev failed : Fault → Result Bytes Fault
failed f = Err f

pub loop-at-init : goal.loop-at-init
loop-at-init g c = λ B u r h. from_first g.F.Sources.turns g.F.Sources.tells (Fetches (IsClean B) g.F.Source.gives c.args.now c.args.path.now []) IsLast _ B _ u _ r c.args.count h

pub returns-in-Ok : goal.returns-in-Ok
returns-in-Ok g c =
    c.loop-at.invariant _ _ _ (turn_ends g.F.Sources.turns g.F.Sources.tells (Fetches _ g.F.Source.gives c.args.now c.args.path.now []) IsLast _ _ _ _ _ _ _ c.args.count c.loop-at.at c.loop-at-test.true c.turn.ensures
    tt (becomes _ _ c.in-Ok.ensures.fetches (λ C D h. h.0)))

pub returns-then-is_want : goal.returns-then-is_want
returns-then-is_want g c =
    c.loop-at.invariant _ _ _ (turn_ends g.F.Sources.turns g.F.Sources.tells (Fetches _ g.F.Source.gives c.args.now c.args.path.now []) IsLast _ _ _ _ _ _ _ c.args.count c.loop-at.at c.loop-at-test.true c.turn.ensures
    (c.if-is_want.ensures.0 refl) (becomes _ _ c.in-Err.ensures.fetches (λ C D h. h.0)))

pub loop-at-preserved : goal.loop-at-preserved
loop-at-preserved g c = λ B u r rest.
    c.loop-at.invariant B u r (turn_goes g.F.Sources.turns g.F.Sources.tells (Fetches (IsClean B) g.F.Source.gives c.args.now c.args.path.now []) IsLast _ _ B _ _ _ _ u _ _ _ r c.args.count c.loop-at.at c.loop-at-test.true c.turn.ensures
    (λ want. let k : false ≡ true = c.if-is_want.ensures.1 want in absurd cc) c.failed.ensures (ap failed c.worse-so_far.ensures)
    (becomes _ _ c.in-Err.ensures.fetches (λ C D h. trusts_less _ (IsClean B) rest.clean g.F.Source.gives c.args.now c.args.path.now [] _ _ C D _ h.0)) rest)

pub returns : goal.returns
returns g c =
    c.loop-at.invariant _ _ _ (turns_over g.F.Sources.turns g.F.Sources.tells (Fetches _ g.F.Source.gives c.args.now c.args.path.now []) IsLast _ _ _ c.args.count c.loop-at.at c.loop-at-test.false)
