use Rattle.std.proofs.Common.{ℕ, List, Ok, Err, ap, subst, sym, ◌∙◌}
use Rattle.lms.specs.Keys.{public_of}
use Rattle.lms.specs.Verifies.{Verifies}
use Rattle.lms.specs.declared.Params.{Params}
use Rattle.keys_roles.specs.Views.{id_text}
use Rattle.leaf_plans.specs.Book.{key_of}
use Rattle.leaf_book.specs.Calls.{Registers, Reserves}
use Rattle.signer.proofs.Crashes.{left_early, left_late}
use Rattle.signer.proofs.Reserving.{same_params, unreserved, unspent}
use Rattle.signer.proofs.messages.sign_message.Goals as goal

pub sign_with-requires-clause-params : goal.sign_with-requires-clause-params
sign_with-requires-clause-params g c =
    same_params _ _ _ c.args.pair.now.seed c.args.pair.now.params (id_text c.in-Ok.id) c.args.message.now c.in-Ok-reserve.leaf c.in-Ok.ensures.right
    c.in-Ok.ensures.registers c.in-Ok-reserve.ensures.reserves

pub sign_with-requires-clause-seed : goal.sign_with-requires-clause-seed
sign_with-requires-clause-seed g c =
    let same = same_params _ _ _ c.args.pair.now.seed c.args.pair.now.params (id_text c.in-Ok.id) c.args.message.now c.in-Ok-reserve.leaf c.in-Ok.ensures.right
    c.in-Ok.ensures.registers c.in-Ok-reserve.ensures.reserves in
    ap (key_of c.args.pair.now.seed) (sym same) ∙ sym c.in-Ok.ensures.registers.0 ∙ sym c.in-Ok-reserve.ensures.reserves.0

pub returns-in-Ok-sign_with-clause-verifies : goal.returns-in-Ok-sign_with-clause-verifies
returns-in-Ok-sign_with-clause-verifies g c =
    let seed = c.args.pair.now.seed in
    let signed = c.in-Ok-sign_with.signature.items in
    let same = same_params _ _ _ seed c.args.pair.now.params (id_text c.in-Ok.id) c.args.message.now c.in-Ok-reserve.leaf c.in-Ok.ensures.right
    c.in-Ok.ensures.registers c.in-Ok-reserve.ensures.reserves in
    let by_leaf = subst (λ (params : Params). Verifies (public_of seed params) c.in-Ok-reserve.leaf.message signed) (sym same) c.in-Ok-sign_with.ensures.verifies in
    subst (λ (message : List ℕ). Verifies (public_of seed c.args.pair.now.params) message signed) c.in-Ok-reserve.ensures.reserves.1 by_leaf

pub returns-in-Ok-sign_with-clause-signs : goal.returns-in-Ok-sign_with-clause-signs
returns-in-Ok-sign_with-clause-signs g c =
    let before = c.args.book.now.book in
    let registered = c.register_pair.new.self.book in
    let after = c.reserve.new.self.book in
    let same = c.in-Ok.ensures.registers.0 in
    record {
      registered = registered;
      leaf = c.in-Ok-reserve.leaf;
      registers = subst (λ (key : List ℕ). Registers before c.args.pair.now.seed c.args.pair.now.params (Ok key) registered) same c.in-Ok.ensures.registers;
      reserves = subst (λ (key : List ℕ). Reserves registered key c.args.message.now (Ok c.in-Ok-reserve.leaf) after) same c.in-Ok-reserve.ensures.reserves;
      own = sym (same_params _ _ _ c.args.pair.now.seed c.args.pair.now.params (id_text c.in-Ok.id) c.args.message.now c.in-Ok-reserve.leaf c.in-Ok.ensures.right c.in-Ok.ensures.registers c.in-Ok-reserve.ensures.reserves);
      signs = c.in-Ok-sign_with.ensures.signature;
    }

pub returns-in-Err-reserve-clause-unsigned : goal.returns-in-Err-reserve-clause-unsigned
returns-in-Err-reserve-clause-unsigned g c =
    let before = c.args.book.now.book in
    let registered = c.register_pair.new.self.book in
    let after = c.reserve.new.self.book in
    let same = c.in-Ok.ensures.registers.0 in
    unreserved before registered after c.args.pair.now.seed c.args.pair.now.params c.args.message.now c.in-Err-reserve.fault
    (subst (λ (key : List ℕ). Registers before c.args.pair.now.seed c.args.pair.now.params (Ok key) registered) same c.in-Ok.ensures.registers)
    (subst (λ (key : List ℕ). Reserves registered key c.args.message.now (Err c.in-Err-reserve.fault) after) same c.in-Err-reserve.ensures.reserves)

pub returns-in-Err-sign_with-clause-unsigned : goal.returns-in-Err-sign_with-clause-unsigned
returns-in-Err-sign_with-clause-unsigned g c =
    let before = c.args.book.now.book in
    let registered = c.register_pair.new.self.book in
    let after = c.reserve.new.self.book in
    let same = c.in-Ok.ensures.registers.0 in
    unspent before registered after c.args.pair.now.seed c.args.pair.now.params c.args.message.now c.in-Ok-reserve.leaf
    (subst (λ (key : List ℕ). Registers before c.args.pair.now.seed c.args.pair.now.params (Ok key) registered) same c.in-Ok.ensures.registers)
    (subst (λ (key : List ℕ). Reserves registered key c.args.message.now (Ok c.in-Ok-reserve.leaf) after) same c.in-Ok-reserve.ensures.reserves)

pub returns-in-Ok-sign_with-clause-kept : goal.returns-in-Ok-sign_with-clause-kept
returns-in-Ok-sign_with-clause-kept g c clean =
    let live = c.in-Ok-reserve.ensures.live clean in
    (live.1, c.in-Ok-reserve.ensures.durable clean live.1)

pub returns-in-Err-clause-crash : goal.returns-in-Err-clause-crash
returns-in-Err-clause-crash g c clean was trees may =
    left_early trees c.args.book.now.book c.args.pair.now.seed c.args.pair.now.params c.args.message.now (c.register_pair.ensures.crash clean was trees may)

pub returns-in-Err-reserve-clause-crash : goal.returns-in-Err-reserve-clause-crash
returns-in-Err-reserve-clause-crash g c clean was trees may =
    left_late trees c.args.book.now.book c.register_pair.new.self.book c.args.pair.now.seed c.args.pair.now.params (id_text c.in-Ok.id) c.args.message.now c.in-Ok.ensures.registers
    (c.reserve.ensures.crash clean (c.in-Ok.ensures.live (c.reserve.ensures.clean clean)).1 trees may)

pub returns-in-Ok-sign_with-clause-crash : goal.returns-in-Ok-sign_with-clause-crash
returns-in-Ok-sign_with-clause-crash g c clean was trees may =
    left_late trees c.args.book.now.book c.register_pair.new.self.book c.args.pair.now.seed c.args.pair.now.params (id_text c.in-Ok.id) c.args.message.now c.in-Ok.ensures.registers
    (c.reserve.ensures.crash clean (c.in-Ok.ensures.live (c.reserve.ensures.clean clean)).1 trees may)

pub returns-in-Err-sign_with-clause-crash : goal.returns-in-Err-sign_with-clause-crash
returns-in-Err-sign_with-clause-crash g c clean was trees may =
    left_late trees c.args.book.now.book c.register_pair.new.self.book c.args.pair.now.seed c.args.pair.now.params (id_text c.in-Ok.id) c.args.message.now c.in-Ok.ensures.registers
    (c.reserve.ensures.crash clean (c.in-Ok.ensures.live (c.reserve.ensures.clean clean)).1 trees may)
