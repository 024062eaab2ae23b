use Rattle.std.proofs.Common.{sym, ◌∙◌}
use Rattle.keys_roles.specs.Views.{rule_view, table_view, entry_view, key_view}
use Rattle.keys_roles.proofs.Knowing.{is_named, named_is}
use Rattle.keys_roles.proofs.meeting.counted.Goals as goal

pub returns-in_err-key-clause-all : goal.returns-in_err-key-clause-all
returns-in_err-key-clause-all c = λ top by.
    let named = is_named (rule_view c.args.rule.now) (table_view c.args.table.now) (entry_view c.args.entry.1.now).keyid by.key by.of_rule by.of_table in
    let no = c.in_err-key.ensures ∙ named in
    absurd (cc)

pub returns-then-verdict-clause-found : goal.returns-then-verdict-clause-found
returns-then-verdict-clause-found c =
    let named = named_is (rule_view c.args.rule.now) (table_view c.args.table.now) (entry_view c.args.entry.1.now).keyid (key_view c.in_ok-key.key.now) (sym c.in_ok-key.ensures) in
    record {
      key = key_view c.in_ok-key.key.now;
      of_rule = named.0;
      of_table = named.1;
      is_top = sym c.top_key.ensures;
      signs = c.verdict.ensures.told.0 c.if-verdict.true;
    }
