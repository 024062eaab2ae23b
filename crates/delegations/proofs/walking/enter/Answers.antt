use Rattle.std.proofs.Common.{◌≡◌, ℕ, ◌-◌, ◌≤◌, List, ◌∷◌, Option, Some, length, map, option_map, refl, ap, sym, ◌∙◌, subst, arith}
use Rattle.std.proofs.lemmas.Result.{err_from_is_err_and}
use Rattle.keys_roles.specs.Views as keys
use Rattle.document_parts.specs.Covers.{covers}
use Rattle.document_parts.specs.Documents as plain
use Rattle.metadata.specs.File.{Bytes, File}
use Rattle.metadata.specs.FileViews.{targets_file}
use Rattle.document_parts.specs.Views.{delegation_view, delegations_view, listing_view}
use Rattle.document_parts.specs.declared.documents.Delegation.{Delegation as CodeDelegation}
use Rattle.document_parts.specs.declared.documents.Delegations.{Delegations as CodeDelegations}
use Rattle.delegations.specs.Delegation.{Edge, Hops}
use Rattle.delegations.specs.Search.{Shelf, hops_of, listing_of}
use Rattle.delegations.specs.Verdicts.{Table}
use Rattle.delegations.specs.Views.{denial_view, edge_view, shelf_view, table_view}
use Rattle.delegations.specs.Visits.{Visits}
use Rattle.delegations.specs.steps.Remains.{IsAt, all_left, load, wide}
use Rattle.delegations.proofs.Onward.{ends_full, ends_denied, ends_found, goes_in, hops_there, lighter, narrow_seen, step_finished}
use Rattle.delegations.proofs.walking.enter.Goals as goal

pub returns-then-room-eq0-clause-judged : goal.returns-then-room-eq0-clause-judged
returns-then-room-eq0-clause-judged c =
    ends_full (shelf_view c.args.shelf.now) c.args.query.now.path.now c.args.query.now.moment (table_view c.args.query.now.known.now) c.args.checks.now (edge_view c.args.edge) (all_left c.args.query.now.path.now c.args.frames.now) c.args.visited.now c.requires.before (omega (arith, c.room.ensures))

pub returns-in_err-file-clause-judged : goal.returns-in_err-file-clause-judged
returns-in_err-file-clause-judged c =
    let p = err_from_is_err_and c.from_residual.result c.from_residual.ensures.1 in
    let V : Shelf = shelf_view c.args.shelf.now in
    let path : Bytes = c.args.query.now.path.now in
    let ends = ends_denied V path c.args.query.now.moment (table_view c.args.query.now.known.now) c.args.checks.now (edge_view c.args.edge) (all_left path c.args.frames.now) c.args.visited.now c.requires.before
    c.visit.new.checks (31 - length c.args.visited.now) (denial_view c.in_err-file.field-0.0) c.in_err-file.ensures.lacking (omega arith) c.in_err-file.ensures.answer in
    rw (p.1, p.2) (ends.0, ends.1, subst (λ m. Visits V path c.args.query.now.moment m) (sym c.add.ensures) ends.2)

pub returns-in-Some-clause-judged : goal.returns-in-Some-clause-judged
returns-in-Some-clause-judged c =
    let V : Shelf = shelf_view c.args.shelf.now in
    let path : Bytes = c.args.query.now.path.now in
    let ends = ends_found V path c.args.query.now.moment (table_view c.args.query.now.known.now) c.args.checks.now (edge_view c.args.edge) (all_left path c.args.frames.now) c.args.visited.now c.requires.before
    c.visit.new.checks (31 - length c.args.visited.now) (targets_file c.in_ok-file.file.now) (listing_view c.in-Some.listing.now) c.in_ok-file.ensures.lacking (omega arith) c.in_ok-file.ensures.answer
    (ap (λ (p : Bytes). listing_of (targets_file c.in_ok-file.file.now).body p) (sym c.as_str.ensures.value) ∙ sym c.in-Some.ensures) in
    (ends.0, ends.1, subst (λ m. Visits V path c.args.query.now.moment m) (sym c.add.ensures) ends.2)

-- what a new frame stands for
opened : (path : Bytes) (o : Option CodeDelegations) (ds : CodeDelegations) (roles : List CodeDelegation) → o ≡ Some ds → roles ≡ ds.roles.items
    → hops_of (λ d. covers d path) (option_map delegations_view o) ≡ hops_of (λ d. covers d path) (Some (record { keys = keys.table_view ds.keys; roles = map delegation_view roles }))
opened path o ds roles is are = rw (is, are) refl

pub returns-in_default-delegations-clause-judged : goal.returns-in_default-delegations-clause-judged
returns-in_default-delegations-clause-judged c =
    let V : Shelf = shelf_view c.args.shelf.now in
    let path : Bytes = c.args.query.now.path.now in
    let T : Table = table_view c.args.query.now.known.now in
    let e : Edge = edge_view c.args.edge in
    let hss : List Hops = all_left path c.args.frames.now in
    let file : File plain.Targets = targets_file c.in_ok-file.file.now in
    let at : IsAt V path c.args.query.now.moment T c.visit.new.checks (hops_of (λ d. covers d path) file.body.delegations ∷ hss) (e.role ∷ c.args.visited.now) =
    goes_in V path c.args.query.now.moment T c.args.checks.now e hss c.args.visited.now c.requires.before c.visit.new.checks (31 - length c.args.visited.now) file (hops_of (λ d. covers d path) file.body.delegations) c.in_ok-file.ensures.lacking (omega arith) (omega arith) c.in_ok-file.ensures.answer
    (ap (λ (p : Bytes). listing_of file.body p) (sym c.as_str.ensures.value) ∙ sym c.in_default.ensures)
    (hops_there V path c.args.query.now.moment T c.args.checks.now e hss c.args.visited.now c.requires.before file c.in_ok-file.ensures.answer) in
    subst (λ m. IsAt V path c.args.query.now.moment T c.visit.new.checks hss m) (sym c.add.ensures)
    (step_finished V path c.args.query.now.moment T c.visit.new.checks hss (e.role ∷ c.args.visited.now)
    (subst (λ (o : Option CodeDelegations). IsAt V path c.args.query.now.moment T c.visit.new.checks (hops_of (λ d. covers d path) (option_map delegations_view o) ∷ hss) (e.role ∷ c.args.visited.now)) c.in_default-delegations.is at))

pub returns-clause-judged : goal.returns-clause-judged
returns-clause-judged c =
    let V : Shelf = shelf_view c.args.shelf.now in
    let path : Bytes = c.args.query.now.path.now in
    let T : Table = table_view c.args.query.now.known.now in
    let e : Edge = edge_view c.args.edge in
    let hss : List Hops = all_left path c.args.frames.now in
    let file : File plain.Targets = targets_file c.in_ok-file.file.now in
    let at : IsAt V path c.args.query.now.moment T c.visit.new.checks (hops_of (λ d. covers d path) file.body.delegations ∷ hss) (e.role ∷ c.args.visited.now) =
    goes_in V path c.args.query.now.moment T c.args.checks.now e hss c.args.visited.now c.requires.before c.visit.new.checks (31 - length c.args.visited.now) file (hops_of (λ d. covers d path) file.body.delegations) c.in_ok-file.ensures.lacking (omega arith) (omega arith) c.in_ok-file.ensures.answer
    (ap (λ (p : Bytes). listing_of file.body p) (sym c.as_str.ensures.value) ∙ sym c.in_default.ensures)
    (hops_there V path c.args.query.now.moment T c.args.checks.now e hss c.args.visited.now c.requires.before file c.in_ok-file.ensures.answer) in
    let same = opened path c.in_ok-file.file.now.body.delegations c.in-Some-delegations.delegations c.deref.result.now c.in-Some-delegations.is c.deref.ensures.value in
    subst (λ fs. IsAt V path c.args.query.now.moment T c.visit.new.checks (all_left path fs) c.add.new.self) (sym c.push.ensures)
    (subst (λ m. IsAt V path c.args.query.now.moment T c.visit.new.checks (hops_of (λ d. covers d path) (Some (record { keys = keys.table_view c.in-Some-delegations.delegations.keys; roles = map delegation_view c.deref.result.now })) ∷ hss) m) (sym c.add.ensures)
    (subst (λ hs. IsAt V path c.args.query.now.moment T c.visit.new.checks (hs ∷ hss) (e.role ∷ c.args.visited.now)) same at))

pub returns-clause-less : goal.returns-clause-less
returns-clause-less c =
    let V : Shelf = shelf_view c.args.shelf.now in
    let path : Bytes = c.args.query.now.path.now in
    let w : ℕ = wide path V.rows in
    let file : File plain.Targets = targets_file c.in_ok-file.file.now in
    let same = opened path c.in_ok-file.file.now.body.delegations c.in-Some-delegations.delegations c.deref.result.now c.in-Some-delegations.is c.deref.ensures.value in
    let hs : Hops = hops_of (λ d. covers d path) (Some (record { keys = keys.table_view c.in-Some-delegations.delegations.keys; roles = map delegation_view c.deref.result.now })) in
    let fits : length hs ≤ w = subst (λ (t : Hops). length t ≤ w) same (narrow_seen V path (edge_view c.args.edge) c.args.query.now.moment file c.in_ok-file.ensures.answer) in
    rw (c.push.ensures, c.add.ensures) (lighter (length c.args.visited.now) w (length hs) (load (all_left path c.args.frames.now)) (omega (arith, c.room.ensures)) fits)
