use Rattle.std.proofs.Common.{◌++◌, option_map, sym, ap, ◌∙◌}
use Rattle.std.specs.Prelude.{codes, string_bytes}
use Rattle.metadata.specs.File.{Bytes}
use Rattle.client.proofs.Found.{found_bytes, found_denied}
use Rattle.client.proofs.from_state.find.Goals as goal

pub returns-in-Ok : goal.returns-in-Ok
returns-in-Ok c =
    let k = c.in-Some-strip_prefix.ensures.cases in
    found_bytes c.names_undo.ensures.asks_once c.args.server.now.state c.args.now c.args.name.now c.in-Some-strip_prefix.text.now (string_bytes c.in_ok-path.path) c.as_str.result.now
    (option_map (λ d. d.0) c.in_ok-path.asked) (k.1.1 ∙ ap (λ (t : Bytes). codes "targets/" ++ t) (sym k.2)) c.as_str.ensures.value c.in_ok-path.ensures c.in-Ok.bytes c.in-Ok.ensures

pub returns-in-Err-Denied : goal.returns-in-Err-Denied
returns-in-Err-Denied c =
    let k = c.in-Some-strip_prefix.ensures.cases in
    found_denied c.names_undo.ensures.asks_once c.args.server.now.state c.args.now c.args.name.now c.in-Some-strip_prefix.text.now (string_bytes c.in_ok-path.path) c.as_str.result.now
    (option_map (λ d. d.0) c.in_ok-path.asked) (k.1.1 ∙ ap (λ (t : Bytes). codes "targets/" ++ t) (sym k.2)) c.as_str.ensures.value c.in_ok-path.ensures c.in-Err-Denied.field-0 c.in-Err-Denied.field-0-0 c.in-Err-Denied.field-0-is c.in-Err-Denied.ensures
