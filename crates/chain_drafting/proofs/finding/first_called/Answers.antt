use Rattle.std.proofs.Common.{◌≡◌, true, false, sym, ◌∙◌, subst}
use Rattle.std.proofs.lemmas.List.{get_or_default}
use Rattle.keys_roles.specs.Views.{id_text}
use Rattle.chain_drafting.specs.Finding.{IsCalled, IsNotCalled}
use Rattle.chain_drafting.proofs.Finds.{Entry, all_more, all_taken}
use Rattle.drafting.proofs.Rows.{shown}
use Rattle.chain_drafting.proofs.finding.first_called.Goals as goal

pub loop-i-preserved : goal.loop-i-preserved
loop-i-preserved c =
    all_more (IsNotCalled (shown c.args.names.now) c.args.word.now) c.args.rows.now c.loop-i.i c.row_at.result.now c.loop-i-test.true c.row_at.ensures c.loop-i.invariant
    (λ h. let e : false ≡ true = sym c.if-called.false ∙ c.in_ok-called.ensures.1 h in absurd (cc))

pub returns-then-called : goal.returns-then-called
returns-then-called c = record {
  within = c.loop-i-test.true;
  before = c.loop-i.invariant;
  called = λ d.
      subst (λ (x : Entry). IsCalled (shown c.args.names.now) c.args.word.now (id_text x.0))
      (c.row_at.ensures ∙ get_or_default c.args.rows.now c.loop-i.i c.row_at.result.now d c.loop-i-test.true) (c.in_ok-called.ensures.0 c.if-called.true);
}

pub returns : goal.returns
returns c =
    all_taken (IsNotCalled (shown c.args.names.now) c.args.word.now) c.args.rows.now c.loop-i.i c.loop-i-test.false c.loop-i.invariant
