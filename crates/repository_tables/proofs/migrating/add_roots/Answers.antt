use Rattle.std.proofs.Common.{◌≡◌, ◌∙◌, map, take, ap, [], arith, subst, sym}
use Rattle.std.proofs.lemmas.List.{take_all}
use Rattle.sqlite.specs.State.{HasCleanDisk}
use Rattle.sqlite.specs.Held.{state}
use Rattle.repository_tables.specs.steps.Writing.{IsInside}
use Rattle.repository_tables.proofs.Changes.{uncommitted_then}
use Rattle.repository_tables.proofs.Migrated.{more_taken, one_more, with_roots}
use Rattle.repository_tables.proofs.migrating.add_roots.Goals as goal

pub roots-preserved : goal.roots-preserved
roots-preserved g c =
    let was = state g.S.Store c.roots.tx.conn.now in
    let now = state g.S.Store c.add_root.new.tx.conn.now in
    let at = c.roots.root-index in
    let so = c.roots.invariant in
    let early : HasCleanDisk now → HasCleanDisk was = λ clean. omega (arith, c.add_root.ensures.uncommitted.survives.clean) in (
      uncommitted_then g.S.Store c.args.tx.now c.roots.tx c.add_root.new.tx so.0 c.add_root.ensures.uncommitted,
      λ clean cells is.
          let more = more_taken c.args.roots.now (λ r. (r.0, (1, r.1.now))) at (0, record { ref_ptr = (0, 0); now = [] }) (omega arith) in
          subst (IsInside now) (sym (ap (with_roots cells) more ∙ one_more cells _ _)) (c.in_ok-add_root.ensures.wrote clean _ (so.1 (early clean) cells is)),
    )

pub returns-clause-wrote : goal.returns-clause-wrote
returns-clause-wrote g c clean cells is =
    let whole : take c.roots.root-index c.args.roots.now ≡ c.args.roots.now = take_all c.roots.root-index c.args.roots.now (omega arith) in
    subst (λ rs. IsInside (state g.S.Store c.roots.tx.conn.now) (with_roots cells (map (λ r. (r.0, (1, r.1.now))) rs))) whole (c.roots.invariant.1 clean cells is)
