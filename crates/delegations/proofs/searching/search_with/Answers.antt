use Rattle.std.proofs.Common.{◌++◌, ◌∙◌, codes, map, sym, subst}
use Rattle.keys_roles.specs.Rules.{AreDistinct}
use Rattle.metadata.specs.File.{Names}
use Rattle.document_parts.specs.Sorted.{AreInOrder}
use Rattle.document_parts.specs.Views.{meta_view}
use Rattle.delegations.specs.Verdicts.{Costs, Table}
use Rattle.delegations.specs.Views.{shelf_view}
use Rattle.delegations.proofs.Free.{free}
use Rattle.delegations.proofs.Gathered.{listed_names, names_distinct}
use Rattle.delegations.proofs.searching.search_with.Goals as goal

pub returns-clause-free : goal.returns-clause-free
returns-clause-free c few complete =
    let V = shelf_view c.args.shelf.now in
    let rows = c.args.shelf.now.snapshot.now.meta.items in
    let order : AreInOrder (map (λ e. e.0 ++ codes ".json") rows) = c.args.shelf.now.snapshot.now.in_order in
    let distinct : AreDistinct (map (λ m. m.0) V.listing) = subst (λ (ns : Names). AreDistinct ns) (sym (listed_names meta_view rows)) (names_distinct rows order) in
    let costs : Costs V c.args.verdicts.now c.args.path.now c.args.now c.search_over-answer.new.checks =
    subst (λ (T : Table). Costs V T c.args.path.now c.args.now c.search_over-answer.new.checks) c.rows.ensures c.search_over-answer.ensures.costs in
    c.count.ensures ∙ free V c.args.verdicts.now few complete c.args.path.now c.args.now c.search_over-answer.new.checks distinct costs
