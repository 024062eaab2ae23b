use Rattle.std.proofs.Common.{false, true, refl}
use Rattle.std.specs.Prelude.{◌≡◌}
use Rattle.client.specs.Session.{Updates}
use Rattle.client.specs.Several.{IsWanting}
use Rattle.client.proofs.BySeveral.{from_first, turn_ends, turn_goes, turns_over}
use Rattle.client.proofs.Composing.{becomes}
use Rattle.client.proofs.several.updates.Goals as goal

pub loop-place-init : goal.loop-place-init
loop-place-init g c = λ B u r h. from_first g.F.Sources.turns g.F.Sources.tells (Updates g.F.Source.gives c.args.now) IsWanting _ B _ u _ r c.args.count h

pub returns-then-is_last : goal.returns-then-is_last
returns-then-is_last g c =
    c.loop-place.invariant _ _ _ (turn_ends g.F.Sources.turns g.F.Sources.tells (Updates g.F.Source.gives c.args.now) IsWanting _ _ _ _ _ _ _ c.args.count c.loop-place.place c.loop-place-test.true c.turn.ensures
    (c.if-is_last.ensures.0 refl) (becomes _ _ c.update-end.ensures.updates (λ C D h. h.0)))

pub loop-place-preserved : goal.loop-place-preserved
loop-place-preserved g c = λ B u r rest.
    c.loop-place.invariant B u r (turn_goes g.F.Sources.turns g.F.Sources.tells (Updates g.F.Source.gives c.args.now) IsWanting _ _ B _ _ _ _ u _ _ _ r c.args.count c.loop-place.place c.loop-place-test.true c.turn.ensures
    (λ want. let k : false ≡ true = c.if-is_last.ensures.1 want in absurd cc) c.tell.ensures c.joined-so_far.ensures (becomes _ _ c.update-end.ensures.updates (λ C D h. h.0)) rest)

pub returns : goal.returns
returns g c =
    c.loop-place.invariant _ _ _ (turns_over g.F.Sources.turns g.F.Sources.tells (Updates g.F.Source.gives c.args.now) IsWanting _ _ _ c.args.count c.loop-place.place c.loop-place-test.false)
