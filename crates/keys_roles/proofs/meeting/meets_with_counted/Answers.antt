use Rattle.std.proofs.Common.{sym}
use Rattle.std.proofs.lemmas.List.{length-map}
use Rattle.keys_roles.specs.Views.{rule_view, table_view, entry_view, entries_view, verdict_views}
use Rattle.keys_roles.proofs.Checking.{ended_met}
use Rattle.keys_roles.proofs.Tops.{tells}
use Rattle.keys_roles.proofs.meeting.meets_with_counted.Goals.{then-threshold-le-USUAL, else-threshold-le-USUAL}
use Rattle.keys_roles.proofs.meeting.meets_with_counted.Goals as goal

pub returns-clause-met : goal.returns-clause-met
returns-clause-met c =
    let asks = tells (rule_view c.args.rule.now) (table_view c.args.table.now) c.args.signed.now (entries_view c.args.signatures.now) c.from-threshold.result in
    elim c.if-threshold-le-USUAL.branch [
      | then-threshold-le-USUAL w ↦ rw w.count-is (asks w.count_in-count.result (sym c.from-threshold.ensures) w.count_in-count.ensures.counted)
      | else-threshold-le-USUAL w ↦ rw w.count-is (asks w.count_in-count-else-threshold-le-USUAL.result (sym c.from-threshold.ensures) w.count_in-count-else-threshold-le-USUAL.ensures.counted)
    ]

pub returns-clause-checked : goal.returns-clause-checked
returns-clause-checked c =
    let long = length-map c.args.signatures.now entry_view in
    elim c.if-threshold-le-USUAL.branch [
      | then-threshold-le-USUAL w ↦
          ended_met (rule_view c.args.rule.now) (table_view c.args.table.now) c.args.signed.now (verdict_views c.args.known.now) (entries_view c.args.signatures.now)
          c.from-threshold.result w.count_in-count.result c.args.steps.now _ _ _ (sym c.from-threshold.ensures) long w.steps-is w.count_in-count.ensures.checked
      | else-threshold-le-USUAL w ↦
          ended_met (rule_view c.args.rule.now) (table_view c.args.table.now) c.args.signed.now (verdict_views c.args.known.now) (entries_view c.args.signatures.now)
          c.from-threshold.result w.count_in-count-else-threshold-le-USUAL.result c.args.steps.now _ _ _ (sym c.from-threshold.ensures) long w.steps-is
          w.count_in-count-else-threshold-le-USUAL.ensures.checked
    ]
