use Rattle.std.proofs.Common.{◌≡◌, ◌∙◌, ◌∷◌, [], arith, ap, subst, sym}
use Rattle.sqlite.specs.Effect.{Database}
use Rattle.sqlite.specs.Held.{state}
use Rattle.sqlite.specs.State.{HasCleanDisk, IsUnchanged}
use Rattle.sql_tables.specs.Loading.{AreLoaded, rises, with_rowid}
use Rattle.table_rows.specs.Schema.{held}
use Rattle.table_rows.specs.Rows.{root_cells, root2_cells, current_cells, shelf_cells, blob_cells, version_cells}
use Rattle.table_rows.proofs.Beginnings.{five_after, some_after, some_five, root_held, current_held, shelf_held, blob_held, version_held}
use Rattle.table_rows.proofs.Looking.{on_fault, quiet_then, unchanged_then}
use Rattle.table_rows.proofs.loading.ask.Goals as goal

pub returns-clause-rows : goal.returns-clause-rows
returns-clause-rows g c =
    let root = c.in_ok-first_roots.ensures.rows in
    let current = c.in_ok-current.ensures.rows in
    let shelf = c.in_ok-shelf.ensures.rows in
    let blob = c.in_ok-blobs.ensures.rows in
    let version = c.in_ok-versions.ensures.rows in
    let root2 = c.in_ok-roots.ensures.rows in
    let once = c.in_ok-check_rowids.ensures.once in (
      record { root = root.0; current = current.0; shelf = shelf.0; blob = blob.0; version = version.0; root2 = root2.0 },
      record { root = root.1 once.0; current = current.1 once.1; shelf = shelf.1 once.2; blob = blob.1 once.3; version = version.1 once.4; root2 = root2.1 once.5 },
      record { root = root.2; current = current.2; shelf = shelf.2; blob = blob.2; version = version.2; root2 = root2.2 },
      λ clean some.
          let s0 = state g.S.Store c.args.conn.now in
          let s1 = state g.S.Store c.first_rows.new.conn in
          let s2 = state g.S.Store c.current_rows.new.conn in
          let s3 = state g.S.Store c.shelf_rows.new.conn in
          let s4 = state g.S.Store c.blob_rows.new.conn in
          let s5 = state g.S.Store c.version_rows.new.conn in
          let has = some_five c.args.count s0.now.schema some in
          let c5 : HasCleanDisk s5 = omega (arith, clean, c.root_rows.ensures.survives.clean) in
          let c4 : HasCleanDisk s4 = omega (arith, c5, c.version_rows.ensures.read_only.survives.clean) in
          let c3 : HasCleanDisk s3 = omega (arith, c4, c.blob_rows.ensures.read_only.survives.clean) in
          let c2 : HasCleanDisk s2 = omega (arith, c3, c.shelf_rows.ensures.read_only.survives.clean) in
          let c1 : HasCleanDisk s1 = omega (arith, c2, c.current_rows.ensures.read_only.survives.clean) in
          let n1 : s1.now ≡ s0.now = (c.in_ok-first_roots.ensures.read_only.unchanged c1 has).0.now_is in
          let h1 = five_after n1 has in
          let n2 : s2.now ≡ s0.now = (c.in_ok-current.ensures.read_only.unchanged c2 h1).0.now_is ∙ n1 in
          let h2 = five_after n2 has in
          let n3 : s3.now ≡ s0.now = (c.in_ok-shelf.ensures.read_only.unchanged c3 h2).0.now_is ∙ n2 in
          let h3 = five_after n3 has in
          let n4 : s4.now ≡ s0.now = (c.in_ok-blobs.ensures.read_only.unchanged c4 h3).0.now_is ∙ n3 in
          let h4 = five_after n4 has in
          let n5 : s5.now ≡ s0.now = (c.in_ok-versions.ensures.read_only.unchanged c5 h4).0.now_is ∙ n4 in
          let db = s0.now in
          record {
            root = subst (λ r. AreLoaded root_cells (rises ∷ []) r root.0) (sym (root_held db.schema db.trees has)) (root.3 c1 has);
            current = subst (λ r. AreLoaded (with_rowid current_cells) [] r current.0) (ap (λ (d : Database). d.trees 1) n1 ∙ sym (current_held db.schema db.trees has)) (current.3 c2 h1);
            shelf = subst (λ r. AreLoaded (with_rowid shelf_cells) (rises ∷ rises ∷ []) r shelf.0) (ap (λ (d : Database). d.trees 3) n2 ∙ sym (shelf_held db.schema db.trees has)) (shelf.3 c3 h2);
            blob = subst (λ r. AreLoaded (with_rowid blob_cells) (rises ∷ []) r blob.0) (ap (λ (d : Database). d.trees 5) n3 ∙ sym (blob_held db.schema db.trees has)) (blob.3 c4 h3);
            version = subst (λ r. AreLoaded version_cells [] r version.0) (ap (λ (d : Database). d.trees 7) n4 ∙ sym (version_held db.schema db.trees has)) (version.3 c5 h4);
            root2 = subst (λ (d : Database). AreLoaded root2_cells (rises ∷ []) (held d.schema d.trees 8) root2.0) n5 (root2.3 clean (some_after c.args.count n5 some));
          },
    )

pub returns-clause-read_only : goal.returns-clause-read_only
returns-clause-read_only g c =
    let s0 = state g.S.Store c.args.conn.now in
    let s1 = state g.S.Store c.first_rows.new.conn in
    let s2 = state g.S.Store c.current_rows.new.conn in
    let s3 = state g.S.Store c.shelf_rows.new.conn in
    let s4 = state g.S.Store c.blob_rows.new.conn in
    let s5 = state g.S.Store c.version_rows.new.conn in
    let s6 = state g.S.Store c.root_rows.new.conn in
    record {
      unchanged = λ clean some.
          let has = some_five c.args.count s0.now.schema some in
          let c5 : HasCleanDisk s5 = omega (arith, clean, c.root_rows.ensures.survives.clean) in
          let c4 : HasCleanDisk s4 = omega (arith, c5, c.version_rows.ensures.read_only.survives.clean) in
          let c3 : HasCleanDisk s3 = omega (arith, c4, c.blob_rows.ensures.read_only.survives.clean) in
          let c2 : HasCleanDisk s2 = omega (arith, c3, c.shelf_rows.ensures.read_only.survives.clean) in
          let c1 : HasCleanDisk s1 = omega (arith, c2, c.current_rows.ensures.read_only.survives.clean) in
          let u1 : IsUnchanged s0 s1 = c.in_ok-first_roots.ensures.read_only.unchanged c1 has in
          let u2 : IsUnchanged s0 s2 = unchanged_then s0 s1 s2 u1 (c.in_ok-current.ensures.read_only.unchanged c2 (five_after u1.0.now_is has)) in
          let u3 : IsUnchanged s0 s3 = unchanged_then s0 s2 s3 u2 (c.in_ok-shelf.ensures.read_only.unchanged c3 (five_after u2.0.now_is has)) in
          let u4 : IsUnchanged s0 s4 = unchanged_then s0 s3 s4 u3 (c.in_ok-blobs.ensures.read_only.unchanged c4 (five_after u3.0.now_is has)) in
          let u5 : IsUnchanged s0 s5 = unchanged_then s0 s4 s5 u4 (c.in_ok-versions.ensures.read_only.unchanged c5 (five_after u4.0.now_is has)) in
          unchanged_then s0 s5 s6 u5 (c.in_ok-roots.ensures.unchanged clean (some_after c.args.count u5.0.now_is some) u5.0.is_open);
      mode = λ outside. c.root_rows.ensures.mode (c.version_rows.ensures.read_only.mode (c.blob_rows.ensures.read_only.mode (c.shelf_rows.ensures.read_only.mode (c.current_rows.ensures.read_only.mode (c.first_rows.ensures.read_only.mode outside)))));
      survives = quiet_then s0 s1 s6 c.first_rows.ensures.read_only.survives (quiet_then s1 s2 s6 c.current_rows.ensures.read_only.survives (quiet_then s2 s3 s6 c.shelf_rows.ensures.read_only.survives (quiet_then s3 s4 s6 c.blob_rows.ensures.read_only.survives (quiet_then s4 s5 s6 c.version_rows.ensures.read_only.survives c.root_rows.ensures.survives))));
    }

pub returns-in_err-check_rowids-clause-read_only : goal.returns-in_err-check_rowids-clause-read_only
returns-in_err-check_rowids-clause-read_only g c =
    let s0 = state g.S.Store c.args.conn.now in
    let s1 = state g.S.Store c.first_rows.new.conn in
    let s2 = state g.S.Store c.current_rows.new.conn in
    let s3 = state g.S.Store c.shelf_rows.new.conn in
    let s4 = state g.S.Store c.blob_rows.new.conn in
    let s5 = state g.S.Store c.version_rows.new.conn in
    let s6 = state g.S.Store c.root_rows.new.conn in
    record {
      unchanged = λ _ _. on_fault _ _ c.from_residual-in_err-check_rowids.result c.from_residual-in_err-check_rowids.ensures.1;
      mode = λ outside. c.root_rows.ensures.mode (c.version_rows.ensures.read_only.mode (c.blob_rows.ensures.read_only.mode (c.shelf_rows.ensures.read_only.mode (c.current_rows.ensures.read_only.mode (c.first_rows.ensures.read_only.mode outside)))));
      survives = quiet_then s0 s1 s6 c.first_rows.ensures.read_only.survives (quiet_then s1 s2 s6 c.current_rows.ensures.read_only.survives (quiet_then s2 s3 s6 c.shelf_rows.ensures.read_only.survives (quiet_then s3 s4 s6 c.blob_rows.ensures.read_only.survives (quiet_then s4 s5 s6 c.version_rows.ensures.read_only.survives c.root_rows.ensures.survives))));
    }

pub returns-in_err-roots-clause-read_only : goal.returns-in_err-roots-clause-read_only
returns-in_err-roots-clause-read_only g c =
    let s0 = state g.S.Store c.args.conn.now in
    let s1 = state g.S.Store c.first_rows.new.conn in
    let s2 = state g.S.Store c.current_rows.new.conn in
    let s3 = state g.S.Store c.shelf_rows.new.conn in
    let s4 = state g.S.Store c.blob_rows.new.conn in
    let s5 = state g.S.Store c.version_rows.new.conn in
    let s6 = state g.S.Store c.root_rows.new.conn in
    record {
      unchanged = λ _ _. on_fault _ _ c.from_residual-in_err-roots.result c.from_residual-in_err-roots.ensures.1;
      mode = λ outside. c.root_rows.ensures.mode (c.version_rows.ensures.read_only.mode (c.blob_rows.ensures.read_only.mode (c.shelf_rows.ensures.read_only.mode (c.current_rows.ensures.read_only.mode (c.first_rows.ensures.read_only.mode outside)))));
      survives = quiet_then s0 s1 s6 c.first_rows.ensures.read_only.survives (quiet_then s1 s2 s6 c.current_rows.ensures.read_only.survives (quiet_then s2 s3 s6 c.shelf_rows.ensures.read_only.survives (quiet_then s3 s4 s6 c.blob_rows.ensures.read_only.survives (quiet_then s4 s5 s6 c.version_rows.ensures.read_only.survives c.root_rows.ensures.survives))));
    }
