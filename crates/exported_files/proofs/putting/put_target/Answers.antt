use Rattle.std.proofs.Common.{◌∙◌, Some, None, ℕ, ap, option_map, sym}
use Rattle.std.specs.Global.{Global}
use Rattle.std.specs.Prelude.{Vec}
use Rattle.served_files.proofs.Telling.{on_ok}
use Rattle.exported_files.specs.Exports.{target_denied, target_stood}
use Rattle.exported_files.proofs.Doing.{answers_as, did_after, did_one, did_target, place_as}
use Rattle.exported_files.proofs.putting.put_target.Goals as goal

pub returns-then-has_target : goal.returns-then-has_target
returns-then-has_target g c = did_one _ _ _ _ _ c.if-has_target.ensures.yes
    (target_stood c.as_str.result.now (place_as _ _ _ _ c.as_str.result.now c.as_str.ensures.value c.in_ok-place.ensures))

pub returns-in-Some : goal.returns-in-Some
returns-in-Some g c = on_ok c.put_target.result c.put_target.ensures (λ step.
    did_after _ _ _ _ _ c.if-has_target.ensures.no
    (did_target _ _ _ _ c.args.folder.now c.args.listing.now.path c.args.listing.now.digest.0 c.as_str-in-Some.result.now c.deref.result.now
    (place_as _ _ _ _ c.as_str-in-Some.result.now c.as_str-in-Some.ensures.value c.in_ok-place.ensures)
    (answers_as {M = g.row.M.Denot} g.M.Mirror.Holds c.has_target.new.self c.target.new.self c.args.listing.now.path c.args.listing.now.digest.0 _ (Some c.deref.result.now)
    (ap (option_map (λ (v : Vec ℕ Global). v.items)) c.in-Some.is ∙ ap Some (sym c.deref.ensures.value)) c.in_ok-bytes.ensures)
    step))

pub returns : goal.returns
returns g c = did_after _ _ _ _ _ c.if-has_target.ensures.no
    (did_one _ _ _ _ _ (answers_as {M = g.row.M.Denot} g.M.Mirror.Holds c.has_target.new.self c.target.new.self c.args.listing.now.path c.args.listing.now.digest.0 _ None (ap (option_map (λ (v : Vec ℕ Global). v.items)) c.in-None.is) c.in_ok-bytes.ensures) target_denied)
