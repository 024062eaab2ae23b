use Rattle.std.proofs.lemmas.List.{length-map}
use Rattle.std.proofs.Common.{sym}
use Rattle.keys_roles.specs.Views.{rule_view, table_view, entry_view, entries_view}
use Rattle.keys_roles.proofs.Tops.{have_signed}
use Rattle.keys_roles.proofs.meeting.signed_count.Goals as goal

pub returns-clause-signed : goal.returns-clause-signed
returns-clause-signed c =
    have_signed (rule_view c.args.rule.now) (table_view c.args.table.now) c.args.signed.now (entries_view c.args.signatures.now) _ c.count_in-2.result
    (sym (length-map c.args.signatures.now entry_view)) c.count_in-2.ensures.counted

pub returns-then-most-le-USUAL-clause-signed : goal.returns-then-most-le-USUAL-clause-signed
returns-then-most-le-USUAL-clause-signed c =
    have_signed (rule_view c.args.rule.now) (table_view c.args.table.now) c.args.signed.now (entries_view c.args.signatures.now) _ c.count_in.result
    (sym (length-map c.args.signatures.now entry_view)) c.count_in.ensures.counted
