use Rattle.std.proofs.Common.{Ok, ap, ◌∙◌, subst, ◌<◌, ◌≤◌, length}
use Rattle.std.specs.Prelude.{option_map}
use Rattle.fetch.specs.Source.{answered, items_of}
use Rattle.client.specs.Session.{taken, rejected, absent, overlong, failed}
use Rattle.client.specs.WantedViews.{command_of}
use Rattle.client.proofs.Composing.{becomes, rests}
use Rattle.client.proofs.OneFile.{as_made, gave}
use Rattle.client.proofs.taking.take.Goals as goal

pub returns-in-Ok-None : goal.returns-in-Ok-None
returns-in-Ok-None g c =
    rests _ _ (λ S at. absent (gave g.F.Source.gives _ _ _ _ _ _ _ c.fetch.ensures c.as_str.ensures.value
    (ap answered c.in-Ok-None.is ∙ ap (λ o. Ok (option_map items_of o)) c.in-Ok-None.field-0-is)))

pub returns-in-Err : goal.returns-in-Err
returns-in-Err g c = rests _ _ (λ S at. failed (gave g.F.Source.gives _ _ _ _ _ _ _ c.fetch.ensures c.as_str.ensures.value (ap answered c.in-Err.is)))

pub returns-then-bytes-wanted : goal.returns-then-bytes-wanted
returns-then-bytes-wanted g c =
    let given = gave g.F.Source.gives _ _ _ _ _ _ _ c.fetch.ensures c.as_str.ensures.value
    (ap answered c.in-Ok-Some.is ∙ ap (λ o. Ok (option_map items_of o)) c.in-Ok-Some.field-0-is) in
    rests _ _ (λ S at. overlong given (subst (λ b. c.args.wanted.now.limit < length b) c.deref-bytes.ensures.value c.if-bytes-wanted.true))

pub returns-in-Ok : goal.returns-in-Ok
returns-in-Ok g c =
    let given = gave g.F.Source.gives _ _ _ _ _ _ _ c.fetch.ensures c.as_str.ensures.value
    (ap answered c.in-Ok-Some.is ∙ ap (λ o. Ok (option_map items_of o)) c.in-Ok-Some.field-0-is) in
    let short = subst (λ b. length b ≤ c.args.wanted.now.limit) c.deref-bytes.ensures.value c.if-bytes-wanted.false in
    becomes _ _ c.in-Ok.ensures (λ C D made. taken given short (as_made _ (command_of c.args.wanted.now.purpose) _ _ _ _ _ c.deref-bytes.ensures.value made))

pub returns : goal.returns
returns g c =
    let given = gave g.F.Source.gives _ _ _ _ _ _ _ c.fetch.ensures c.as_str.ensures.value
    (ap answered c.in-Ok-Some.is ∙ ap (λ o. Ok (option_map items_of o)) c.in-Ok-Some.field-0-is) in
    let short = subst (λ b. length b ≤ c.args.wanted.now.limit) c.deref-bytes.ensures.value c.if-bytes-wanted.false in
    becomes _ _ c.in-Err-offer.ensures (λ C D made. rejected given short (as_made _ (command_of c.args.wanted.now.purpose) _ _ _ _ _ c.deref-bytes.ensures.value made))
