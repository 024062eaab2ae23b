use Rattle.std.proofs.Common.{subst, string_bytes}
use Rattle.std.specs.Prelude.{IfSome}
use Rattle.std.proofs.lemmas.List.Elements.{All-nil}
use Rattle.cli_placing.specs.Puts.{IsBeside, IsRefused}
use Rattle.cli_placing.proofs.Calling.{called_none, called_refused}
use Rattle.cli_placing.proofs.putting.begun_beside.Goals as goal

pub loop-number-init : goal.loop-number-init
loop-number-init g c = called_none _ _ (All-nil (IsRefused c.args.place.now c.args.mode))

pub loop-number-preserved : goal.loop-number-preserved
loop-number-preserved g c =
    let is : IsBeside c.args.place.now (string_bytes c.in-Some.beside) = subst (λ o. IfSome o (λ beside. IsBeside c.args.place.now (string_bytes beside))) c.in-Some.is c.in_ok-beside.ensures in
    called_refused _ _ _ _ _ _ _ c.as_str.ensures.value is c.loop-number.invariant c.in-Err.ensures.told

pub returns-in-Err-2-clause-none : goal.returns-in-Err-2-clause-none
returns-in-Err-2-clause-none g c =
    let is : IsBeside c.args.place.now (string_bytes c.in-Some.beside) = subst (λ o. IfSome o (λ beside. IsBeside c.args.place.now (string_bytes beside))) c.in-Some.is c.in_ok-beside.ensures in
    called_refused _ _ _ _ _ _ _ c.as_str.ensures.value is c.loop-number.invariant c.in-Err-2.ensures.told
