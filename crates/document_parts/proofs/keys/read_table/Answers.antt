use Rattle.std.proofs.Common.{refl, inr, subst, arith}
use Rattle.canonical_json.specs.View.{view, members_view}
use Rattle.document_parts.specs.Members.{MembersAre}
use Rattle.document_parts.specs.Parts.{IsRow}
use Rattle.document_parts.specs.steps.Tables.{spelled_rows}
use Rattle.document_parts.proofs.Growing.{members_len, same_members}
use Rattle.document_parts.proofs.keys.read_table.Goals as goal

pub returns-then-members-gt-MOST_KEYS-clause-err : goal.returns-then-members-gt-MOST_KEYS-clause-err
returns-then-members-gt-MOST_KEYS-clause-err c = inr (
  refl,
  λ t.
      let same = same_members (view c.args.value.now) t.1.0.0 (members_view c.in-Some.members.now) t.1.0.1 c.in-Some.ensures in
      let count = members_len IsRow c.in-Some.members.now t.0 (subst (λ ms. MembersAre IsRow ms t.0) same t.1.0.2) in
      absurd (omega (arith, count, t.1.1)),
)

pub returns-clause-ok : goal.returns-clause-ok
returns-clause-ok c =
    let count = members_len IsRow c.in-Some.members.now (spelled_rows c.in_ok-rows.rows.items) c.in_ok-rows.ensures.ok in
    ((members_view c.in-Some.members.now, c.in-Some.ensures, c.in_ok-rows.ensures.ok), omega (arith, count))
