use Rattle.std.proofs.Common.{ap, ◌∙◌, Ok}
use Rattle.client.specs.Session.{none, fails, then, unasked}
use Rattle.client.specs.Views.{ended}
use Rattle.client.proofs.Composing.{becomes, follows, rests}
use Rattle.client.proofs.OneFile.{as_wanted}
use Rattle.client.proofs.updating.take_timestamp.Goals as goal

pub returns-in-Err : goal.returns-in-Err
returns-in-Err g c = rests _ _ (λ S at. fails unasked)

pub returns-in-Ok-true : goal.returns-in-Ok-true
returns-in-Ok-true g c =
    follows _ _ _ c.take.ensures c.take_snapshot.ensures
    (λ C D E took more. then (as_wanted g.F.Source.gives _ _ _ _ _ _ _ _ _ c.in-Ok.ensures (ap (ended (λ b. b)) c.in-Ok-true.is ∙ ap Ok c.in-Ok-true.field-0-test) took) more)

pub returns-in-Ok-false : goal.returns-in-Ok-false
returns-in-Ok-false g c =
    becomes _ _ c.take.ensures (λ C D took. none (as_wanted g.F.Source.gives _ _ _ _ _ _ _ _ _ c.in-Ok.ensures (ap (ended (λ b. b)) c.in-Ok-false.is ∙ ap Ok c.in-Ok-false.field-0-test) took))

pub returns : goal.returns
returns g c = becomes _ _ c.take.ensures (λ C D took. fails (as_wanted g.F.Source.gives _ _ _ _ _ _ _ _ _ c.in-Ok.ensures (ap (ended (λ b. b)) c.in-Err-take.is) took))
