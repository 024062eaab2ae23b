use Rattle.std.proofs.Common.{◌≡◌, refl, ◌∙◌, subst, false, Some}
use Rattle.std.specs.Prelude.{string_bytes, IfOk}
use Rattle.std.proofs.lemmas.Result.{IfOk-weaker}
use Rattle.serde_json.specs.Written.{compact_text, has_float}
use Rattle.serde_json.proofs.OnLiterals.{serde_json_on_literals}
use Rattle.http_messages.specs.Bodies.{denial_text}
use Rattle.http_messages.specs.steps.Denials.{denied_at}
use Rattle.http_messages.proofs.DenialText.{at}
use Rattle.http_messages.proofs.bodies.denial_at.Goals as goal

pub returns : goal.returns
unfolding serde_json_on_literals
returns c =
    let text = subst (λ d. IfOk c.to_string.result (λ s. has_float d ≡ false → string_bytes s ≡ compact_text d)) c.in_ok-value.ensures c.to_string.ensures.text in
    IfOk-weaker c.to_string.result
    (λ s. has_float (denied_at c.args.number c.args.index c.args.name.now) ≡ false → string_bytes s ≡ compact_text (denied_at c.args.number c.args.index c.args.name.now))
    (λ s. string_bytes s ≡ denial_text c.args.number (Some c.args.index) c.args.name.now)
    (λ s h. h refl ∙ at c.args.number c.args.index c.args.name.now c.requires.letters) text
