use Rattle.std.proofs.Common.{Ok, inl, inr, refl, ap, sym, subst, ◌∙◌}
use Rattle.sqlite.specs.Held.{state}
use Rattle.sqlite.specs.State.{HasCleanDisk}
use Rattle.lms.specs.declared.Params.{Params}
use Rattle.keys_roles.specs.Views.{id_text}
use Rattle.leaf_plans.specs.Book.{Book, HasTree, IsBook, IsKeyId, IsRegistered, LacksOtherTree, with_signer}
use Rattle.leaf_book.specs.Rows.{HoldsWhole}
use Rattle.leaf_book.proofs.KeyIds.{key_of_id}
use Rattle.leaf_book.proofs.RunLemmas.{with_signer_right}
use Rattle.leaf_book.proofs.book.Book.enter.Goals as goal

pub keep_signer-requires-clause-right : goal.keep_signer-requires-clause-right
keep_signer-requires-clause-right g c =
    let key = id_text c.args.key in
    with_signer_right c.touch.new.self.book key c.args.params (subst IsBook (sym c.touch.ensures.same) c.rests.ensures.right)
    (subst IsKeyId (sym c.requires) (key_of_id c.args.seed.now c.args.params)) c.in-None.ensures

pub returns-in-Ok-keep_signer-clause-crash : goal.returns-in-Ok-keep_signer-clause-crash
returns-in-Ok-keep_signer-clause-crash g c clean was trees may =
    let key = id_text c.args.key in
    let same = c.touch.ensures.same in
    let late : HasCleanDisk (state g.S.Store c.touch.new.self.conn) = c.keep_signer.ensures.clean clean in
    elim (c.keep_signer.ensures.crash clean (c.in-Ok.ensures.open late).1 trees may) [
      | inl before ↦ inl (subst (HoldsWhole trees) same before)
      | inr after ↦ inr (
        Ok key,
        with_signer key c.args.params c.args.self.now.book,
        (c.requires, (λ other differs h. c.if-has_other_tree.ensures other differs (subst (λ (b : Book). HasTree b c.args.seed.now other) (sym same) h)), inr (λ other h. c.in-None.ensures other (subst (λ (b : Book). IsRegistered b key other) (sym same) h), refl)),
        subst (λ (b : Book). HoldsWhole trees (with_signer key c.args.params b)) same after,
      )
    ]

pub returns-in-Err-keep_signer-clause-crash : goal.returns-in-Err-keep_signer-clause-crash
returns-in-Err-keep_signer-clause-crash g c clean was trees may =
    let key = id_text c.args.key in
    let same = c.touch.ensures.same in
    let late : HasCleanDisk (state g.S.Store c.touch.new.self.conn) = c.keep_signer.ensures.clean clean in
    elim (c.keep_signer.ensures.crash clean (c.in-Ok.ensures.open late).1 trees may) [
      | inl before ↦ inl (subst (HoldsWhole trees) same before)
      | inr after ↦ inr (
        Ok key,
        with_signer key c.args.params c.args.self.now.book,
        (c.requires, (λ other differs h. c.if-has_other_tree.ensures other differs (subst (λ (b : Book). HasTree b c.args.seed.now other) (sym same) h)), inr (λ other h. c.in-None.ensures other (subst (λ (b : Book). IsRegistered b key other) (sym same) h), refl)),
        subst (λ (b : Book). HoldsWhole trees (with_signer key c.args.params b)) same after,
      )
    ]

pub returns-in-Some-clause-registers : goal.returns-in-Some-clause-registers
returns-in-Some-clause-registers g c =
    let key = id_text c.args.key in
    let same = c.touch.ensures.same in
    let held = subst (λ (p : Params). IsRegistered c.touch.new.self.book key p) c.if-same_params.ensures c.in-Some.ensures in (
      c.requires,
      subst (λ (b : Book). LacksOtherTree b c.args.seed.now c.args.params) same c.if-has_other_tree.ensures,
      inl (subst (λ (b : Book). IsRegistered b key c.args.params) same held, same),
    )

pub returns-in-Ok-keep_signer-clause-registers : goal.returns-in-Ok-keep_signer-clause-registers
returns-in-Ok-keep_signer-clause-registers g c =
    let key = id_text c.args.key in
    let same = c.touch.ensures.same in (
      c.requires,
      subst (λ (b : Book). LacksOtherTree b c.args.seed.now c.args.params) same c.if-has_other_tree.ensures,
      inr (
        (λ other h. c.in-None.ensures other (subst (λ (b : Book). IsRegistered b key other) (sym same) h)),
        c.in-Ok-keep_signer.ensures.done ∙ ap (with_signer key c.args.params) same,
      ),
    )
