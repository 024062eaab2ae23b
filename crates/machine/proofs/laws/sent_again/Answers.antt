use Rattle.machine.proofs.SentAgain.{answers_again, batch_again, offers_again, step_again}
use Rattle.trust_rules.proofs.ShapedOnce.{Shapes}
use Rattle.machine.proofs.laws.sent_again.Goals as goal

pub returns-clause-offers : goal.returns-clause-offers
returns-clause-offers c = offers_again c.snapshot_names.ensures.distinct

pub returns-clause-batches : goal.returns-clause-batches
returns-clause-batches c = batch_again c.snapshot_names.ensures.distinct

pub returns-clause-steps : goal.returns-clause-steps
returns-clause-steps c = step_again c.snapshot_names.ensures.distinct

pub returns-clause-answers : goal.returns-clause-answers
returns-clause-answers c =
    let shapes : Shapes = record { document = c.one_document.ensures; none = c.one_shape.ensures.none; one = c.one_shape.ensures.one } in
    answers_again c.snapshot_names.ensures.distinct shapes
