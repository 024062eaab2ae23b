use Rattle.std.proofs.Common.{inl, inr, refl, ◌∙◌}
use Rattle.denials.specs.Views.{denial_view}
use Rattle.http_messages.specs.declared.reply.Kind.TheVariants.{Json}
use Rattle.http_serve.proofs.Standings.{wrote}
use Rattle.http_serve.proofs.Telling.{says-denied, shows-denied}
use Rattle.http_serve.proofs.replies.write_denial.Goals as goal

pub returns-clause-told : goal.returns-clause-told
returns-clause-told g c = (
  _,
  inl (says-denied Json (denial_view c.args.denial.now) c.args.index c.status_of-status.result c.number-number.result c.name.result.now c.as_bytes.result.now
      c.number-number.ensures c.name.ensures c.status_of-status.ensures (c.as_bytes.ensures.value ∙ c.in-Ok.ensures)),
  (
    wrote _ _ _ _ c.write_response-written.ensures.ok c.write_response-written.ensures.err,
    shows-denied (denial_view c.args.denial.now) c.args.index _ c.number-number.result c.name.result.now c.as_bytes.result.now
        c.number-number.ensures c.name.ensures c.status_of-status.ensures refl (c.as_bytes.ensures.value ∙ c.in-Ok.ensures),
  ),
)

pub returns-in_default-clause-told : goal.returns-in_default-clause-told
returns-in_default-clause-told g c = (_, inr (tt, refl), c.write_fault.ensures.wrote)
