use Rattle.std.proofs.Common.{◌≡◌, ◌++◌, [], ◌∷◌, List, IsTrue, map, arith, ap, sym, subst, ◌∙◌}
use Rattle.sqlite.specs.Held.{state}
use Rattle.sqlite.specs.State.{HasCleanDisk}
use Rattle.sql_tables.proofs.ListLemmas.{mapped_last}
use Rattle.keys_roles.specs.Views.{id_text}
use Rattle.leaf_plans.specs.Book.{IsBook, Signer, with_signer}
use Rattle.leaf_book.specs.Rows.{IsRecorded}
use Rattle.leaf_plans.specs.Views.{book_view, kept_view, signer_view}
use Rattle.leaf_book.proofs.book.Book.keep_signer.Goals as goal

pub invariant_of-self-in_err-put_signer : goal.invariant_of-self-in_err-put_signer
invariant_of-self-in_err-put_signer g c =
    let leaves = c.self.inside.leaves.items in
    let same : c.reserve.new.self.items ≡ c.self.inside.signers.items = c.in_ok-reserve.ensures.items in
    let open_if = subst (λ s. HasCleanDisk (state g.S.Store s.conn) → IsTrue (state g.S.Store s.conn).is_open) (sym c.self.view_is) c.requires.open in (
      subst (λ ss. IsBook (book_view ss leaves)) (sym same) c.self.invariant.0,
      λ clean stays.
          let early : HasCleanDisk (state g.S.Store c.self.inside.conn) = omega (arith, clean, c.put_signer.ensures.crash.clean) in
          subst (λ ss. IsRecorded (state g.S.Store c.put_signer.new.conn) (book_view ss leaves)) (sym same)
          (c.in_err-put_signer.ensures.unchanged clean stays (book_view c.self.inside.signers.items leaves) (c.self.invariant.1 early (open_if early))),
    )

pub invariant_of-self-2 : goal.invariant_of-self-2
invariant_of-self-2 g c =
    let leaves = c.self.inside.leaves.items in
    let signers = c.self.inside.signers.items in
    let new : Signer = record { key = id_text c.args.key.now; params = c.args.params } in
    let open_if = subst (λ s. HasCleanDisk (state g.S.Store s.conn) → IsTrue (state g.S.Store s.conn).is_open) (sym c.self.view_is) c.requires.open in
    let grown : map signer_view c.push_reserved.new.self.items ≡ map signer_view signers ++ new ∷ [] =
    mapped_last signer_view _ c.reserve.new.self.items _ c.push_reserved.ensures.items ∙ ap (λ ss. map signer_view ss ++ new ∷ []) c.in_ok-reserve.ensures.items in
    let book : book_view c.push_reserved.new.self.items leaves ≡ with_signer (id_text c.args.key.now) c.args.params (book_view signers leaves) = ap (λ (ss : List Signer). record { signers = ss; leaves = map kept_view leaves }) grown in
    let right = subst (λ s. IsBook (with_signer (id_text c.args.key.now) c.args.params s.book)) (sym c.self.view_is) c.requires.right in (
      subst IsBook (sym book) right,
      λ clean stays.
          let early : HasCleanDisk (state g.S.Store c.self.inside.conn) = omega (arith, clean, c.put_signer.ensures.crash.clean) in
          subst (IsRecorded (state g.S.Store c.put_signer.new.conn)) (sym book)
          (c.in_ok-put_signer.ensures.kept clean (book_view signers leaves) (c.self.invariant.1 early (open_if early))),
    )
