use Rattle.std.proofs.Common.{[], ◌∷◌, ap, refl, sym, subst, string_bytes, true, false}
use Rattle.std.specs.Prelude.{is_ok}
use Rattle.cli_placing.specs.Calls.{Name, did, remove}
use Rattle.cli_placing.specs.Puts.{IsLeft}
use Rattle.cli_placing.proofs.Calling.{called_begun, called_none, called_not_begun, called_one}
use Rattle.cli_placing.proofs.putting.put_in_place.Goals as goal

pub returns-in_err-beside : goal.returns-in_err-beside
returns-in_err-beside g c = called_not_begun _ _ _ _ _ _ c.in_ok-stood.stood c.from_residual-in_err-beside.result c.from_residual-in_err-beside.ensures.0
    c.in_ok-stood.ensures.some c.in_err-beside.ensures.none

pub returns-in-Ok : goal.returns-in-Ok
returns-in-Ok g c =
    let begun = c.in_ok-beside.ensures.some in
    let named = c.as_str.ensures.value in
    let names = subst (λ (name : Name). g.P.Places.Names name c.in_ok-beside.file) (sym named) begun.1 in
    called_begun _ _ _ _ _ _ _ _ c.in_ok-stood.stood (string_bytes c.in_ok-beside.beside) c.as_str.result.now true named begun.0
    c.in_ok-stood.ensures.some begun.2 (c.in-Ok.ensures names) (called_none _ _ refl)

pub returns : goal.returns
returns g c =
    let begun = c.in_ok-beside.ensures.some in
    let named = c.as_str.ensures.value in
    let names = subst (λ (name : Name). g.P.Places.Names name c.in_ok-beside.file) (sym named) begun.1 in
    called_begun _ _ _ _ _ _ _ _ c.in_ok-stood.stood (string_bytes c.in_ok-beside.beside) c.as_str.result.now false named begun.0
    c.in_ok-stood.ensures.some begun.2 (c.in-Err.ensures names)
    (called_one _ _ _ (IsLeft (string_bytes c.in_ok-beside.beside) false) c.remove.ensures (is_ok c.remove.result, ap (λ (name : Name). did (remove name) (is_ok c.remove.result) ∷ []) c.as_str-in-Err.ensures.value))
