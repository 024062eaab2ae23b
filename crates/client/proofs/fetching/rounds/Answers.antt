use Rattle.std.proofs.Common.{map, string_bytes, ap, arith}
use Rattle.std.proofs.lemmas.List.{length-map}
use Rattle.client.proofs.Composing.{follows}
use Rattle.client.proofs.Rounds.{from_no_names}
use Rattle.client.proofs.fetching.rounds.Goals as goal

pub returns-in-Ok-Some : goal.returns-in-Ok-Some
returns-in-Ok-Some g c =
    let last = rw c.in-Ok-Some.field-0-is at c.in-Ok-Some.ensures in
    c.rounds.invariant.rest _ _ _ last

pub returns-in-Err : goal.returns-in-Err
returns-in-Err g c = c.rounds.invariant.rest _ _ _ c.in-Err.ensures

pub rounds-preserved : goal.rounds-preserved
rounds-preserved g c =
    let goes = rw c.in-Ok-None.field-0-is at c.in-Ok-None.ensures in
    record {
      few = omega (arith, goes.few, length-map c.round.new.names.items string_bytes, c.round.new.names.ok.0);
      rest = λ B u r more. c.rounds.invariant.rest B u r (follows _ _ _ goes.changes more (λ C D E f rest. f B u E r rest));
    }

pub rounds-smaller : goal.rounds-smaller
rounds-smaller g c =
    let goes = rw c.in-Ok-None.field-0-is at c.in-Ok-None.ensures in
    omega (arith, goes.grows, length-map c.round.new.names.items string_bytes, length-map c.rounds.names.items string_bytes, c.round.new.names.ok.0, c.rounds.names.ok.0, c.rounds.invariant.few)

pub rounds-init : goal.rounds-init
rounds-init g c = record {
  few = omega (arith, c.new-names.ensures.len);
  rest = λ B u r h. from_no_names g.F.Source.gives c.args.now c.args.path.now _ B (map string_bytes c.new-names.result.items) c.args.source.now u r (ap (map string_bytes) c.new-names.ensures.items) h;
}
