use Rattle.std.proofs.Common.{◌≡◌, ◌∙◌, List, Some, sym, subst}
use Rattle.keys_roles.specs.Verdicts.{AreVerdicts, Verdict}
use Rattle.document_parts.specs.Documents.{Targets}
use Rattle.metadata.specs.File.{File}
use Rattle.metadata.specs.FileViews.{targets_file}
use Rattle.delegations.specs.Verdicts.{Table, known_at}
use Rattle.keys_roles.specs.Views.{verdict_views}
use Rattle.delegations.specs.Views.{row_views, table_view}
use Rattle.delegations.proofs.TrueVerdicts.{true_at}
use Rattle.delegations.proofs.verdicts.known_of.Goals as goal

pub returns-in-Some : goal.returns-in-Some
returns-in-Some c file there =
    let held = targets_file c.in-Some.field-0.now in
    let k : Some held ≡ Some file = sym c.in-Some.ensures.there ∙ there in
    let one : held ≡ file = cc in
    let known : known_at (table_view c.rows.result.now) (c.args.role.now, c.args.version) ≡ known_at c.args.held.now (c.args.role.now, c.args.version) =
    subst (λ (t : Table). known_at (table_view c.rows.result.now) (c.args.role.now, c.args.version) ≡ known_at t (c.args.role.now, c.args.version)) c.rows.ensures (λ i. known_at (table_view c.rows.result.now) (c.args.role.now, c.args.version)) in
    subst (λ (f : File Targets). AreVerdicts f.signed f.entries (verdict_views c.of_row.result.now)) one
    (subst (λ (vs : List Verdict). AreVerdicts held.signed held.entries vs) (sym (c.of_row.ensures ∙ known))
    (true_at (row_views c.args.rows.now.held.now) c.args.held.now c.requires c.args.role.now c.args.version held c.in-Some.ensures.held))
