use Rattle.std.proofs.Common.{◌≡◌, ◌++◌, [], ◌∷◌, List, IsTrue, map, arith, ap, sym, subst, ◌∙◌}
use Rattle.sqlite.specs.Held.{state}
use Rattle.sqlite.specs.State.{HasCleanDisk}
use Rattle.sql_tables.proofs.ListLemmas.{mapped_last}
use Rattle.keys_roles.specs.Views.{id_text}
use Rattle.leaf_plans.specs.Book.{IsBook, LeafRow, with_leaf}
use Rattle.leaf_book.specs.Rows.{IsRecorded}
use Rattle.leaf_plans.specs.Views.{book_view, kept_view, signer_view}
use Rattle.leaf_book.proofs.book.Book.keep_leaf.Goals as goal

pub invariant_of-self-in_err-put_leaf : goal.invariant_of-self-in_err-put_leaf
invariant_of-self-in_err-put_leaf g c =
    let signers = c.self.inside.signers.items in
    let same : c.reserve.new.self.items ≡ c.self.inside.leaves.items = c.in_ok-reserve.ensures.items in
    let open_if = subst (λ s. HasCleanDisk (state g.S.Store s.conn) → IsTrue (state g.S.Store s.conn).is_open) (sym c.self.view_is) c.requires.open in (
      subst (λ es. IsBook (book_view signers es)) (sym same) c.self.invariant.0,
      λ clean stays.
          let early : HasCleanDisk (state g.S.Store c.self.inside.conn) = omega (arith, clean, c.put_leaf.ensures.crash.clean) in
          subst (λ es. IsRecorded (state g.S.Store c.put_leaf.new.conn) (book_view signers es)) (sym same)
          (c.in_err-put_leaf.ensures.unchanged clean stays (book_view signers c.self.inside.leaves.items) (c.self.invariant.1 early (open_if early))),
    )

pub invariant_of-self-2 : goal.invariant_of-self-2
invariant_of-self-2 g c =
    let leaves = c.self.inside.leaves.items in
    let signers = c.self.inside.signers.items in
    let copy : c.in_ok-copied.field-0.items ≡ c.args.message.now = c.in_ok-copied.ensures.value in
    let new : LeafRow = record { key = id_text c.args.key.now; leaf = c.args.leaf; message = c.args.message.now } in
    let open_if = subst (λ s. HasCleanDisk (state g.S.Store s.conn) → IsTrue (state g.S.Store s.conn).is_open) (sym c.self.view_is) c.requires.open in
    let grown : map kept_view c.push_reserved.new.self.items ≡ map kept_view leaves ++ new ∷ [] =
    mapped_last kept_view _ c.reserve.new.self.items _ c.push_reserved.ensures.items ∙ ap (λ m. map kept_view c.reserve.new.self.items ++ record { key = id_text c.args.key.now; leaf = c.args.leaf; message = m } ∷ []) copy
    ∙ ap (λ es. map kept_view es ++ new ∷ []) c.in_ok-reserve.ensures.items in
    let book : book_view signers c.push_reserved.new.self.items ≡ with_leaf (id_text c.args.key.now) c.args.leaf c.args.message.now (book_view signers leaves) = ap (λ (es : List LeafRow). record { signers = map signer_view signers; leaves = es }) grown in
    let right = subst (λ s. IsBook (with_leaf (id_text c.args.key.now) c.args.leaf c.args.message.now s.book)) (sym c.self.view_is) c.requires.right in (
      subst IsBook (sym book) right,
      λ clean stays.
          let early : HasCleanDisk (state g.S.Store c.self.inside.conn) = omega (arith, clean, c.put_leaf.ensures.crash.clean) in
          subst (IsRecorded (state g.S.Store c.put_leaf.new.conn)) (sym book)
          (c.in_ok-put_leaf.ensures.kept clean (book_view signers leaves) (c.self.invariant.1 early (open_if early))),
    )
