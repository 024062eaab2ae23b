use Rattle.std.proofs.Common.{[]}
use Rattle.exported_files.specs.Exports.{nothing}
use Rattle.exported_files.proofs.export.export_into.Goals as goal

pub returns : goal.returns
returns g c = λ files holds.
    let end = c.in_ok-visit_files.ensures.so files [] (record { events = []; holds = holds; exports = nothing }) in
    (end.0, end.1.events, end.2.0, end.2.1, end.1.exports, end.1.holds)
