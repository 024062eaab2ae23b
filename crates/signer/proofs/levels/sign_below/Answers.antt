use Rattle.std.proofs.Common.{◌≡◌, ◌≢◌, ℕ, List, take, subst, sym, arith}
use Rattle.lms.specs.Text.{u32}
use Rattle.lms.specs.Verifies.{Verifies}
use Rattle.signer.specs.Levels.{public_by}
use Rattle.signer.proofs.LevelLeaves.{two_verify}
use Rattle.signer.proofs.LevelOutcomes.{both_length, both_signed, crash_early, crash_late, join_as, other_leaf, unjoined, unsigned_after}
use Rattle.signer.proofs.levels.sign_below.Goals as goal

pub returns-in-Err-clause-crash : goal.returns-in-Err-clause-crash
returns-in-Err-clause-crash g c clean was trees may =
    crash_early c.args.book.now.book c.sign_message.new.book.book c.args.top.now c.args.below.now c.args.q c.public-public.result c.args.message.now
    c.public-public.result c.public-public.ensures trees (c.sign_message.ensures.crash clean was trees may)

pub returns-then-not-is_by-clause-unsigned : goal.returns-then-not-is_by-clause-unsigned
returns-then-not-is_by-clause-unsigned g c =
    other_leaf c.args.book.now.book c.sign_message.new.book.book c.args.top.now c.args.below.now c.args.q c.public-public.result c.args.message.now
    c.in-Ok.signature.items c.public-public.ensures c.in-Ok.ensures.signs
    (subst (λ (xs : List ℕ). take 4 xs ≢ u32 c.args.q) c.as_slice.ensures.value c.if-not-is_by.ensures)

pub returns-then-not-is_by-clause-crash : goal.returns-then-not-is_by-clause-crash
returns-then-not-is_by-clause-crash g c clean was trees may =
    crash_early c.args.book.now.book c.sign_message.new.book.book c.args.top.now c.args.below.now c.args.q c.public-public.result c.args.message.now
    c.in-Ok.signature.items c.public-public.ensures trees (c.sign_message.ensures.crash clean was trees may)

pub returns-in-Err-sign_message-clause-unsigned : goal.returns-in-Err-sign_message-clause-unsigned
returns-in-Err-sign_message-clause-unsigned g c =
    unsigned_after c.args.book.now.book c.sign_message.new.book.book c.args.top.now c.args.below.now c.args.q c.public-public.result c.args.message.now
    c.in-Ok.signature.items c.public-public.ensures c.sign_message-2.new.book.book c.in-Err-sign_message.fault (omega arith) c.in-Ok.ensures.signs
    (subst (λ (xs : List ℕ). take 4 xs ≡ u32 c.args.q) c.as_slice.ensures.value c.if-not-is_by.ensures) c.in-Err-sign_message.ensures.unsigned

pub returns-in-Err-sign_message-clause-crash : goal.returns-in-Err-sign_message-clause-crash
returns-in-Err-sign_message-clause-crash g c clean was trees may =
    let before = c.sign_message-2.ensures.clean clean in
    let open_between = (c.in-Ok.ensures.kept before).0 in
    crash_late c.args.book.now.book c.sign_message.new.book.book c.args.top.now c.args.below.now c.args.q c.public-public.result c.args.message.now
    c.in-Ok.signature.items c.public-public.ensures trees c.in-Ok.ensures.signs (c.sign_message-2.ensures.crash clean open_between trees may)

pub returns-in-Ok-join_levels-clause-crash : goal.returns-in-Ok-join_levels-clause-crash
returns-in-Ok-join_levels-clause-crash g c clean was trees may =
    let before = c.sign_message-2.ensures.clean clean in
    let open_between = (c.in-Ok.ensures.kept before).0 in
    crash_late c.args.book.now.book c.sign_message.new.book.book c.args.top.now c.args.below.now c.args.q c.public-public.result c.args.message.now
    c.in-Ok.signature.items c.public-public.ensures trees c.in-Ok.ensures.signs (c.sign_message-2.ensures.crash clean open_between trees may)

pub returns-clause-crash : goal.returns-clause-crash
returns-clause-crash g c clean was trees may =
    let before = c.sign_message-2.ensures.clean clean in
    let open_between = (c.in-Ok.ensures.kept before).0 in
    crash_late c.args.book.now.book c.sign_message.new.book.book c.args.top.now c.args.below.now c.args.q c.public-public.result c.args.message.now
    c.in-Ok.signature.items c.public-public.ensures trees c.in-Ok.ensures.signs (c.sign_message-2.ensures.crash clean open_between trees may)

pub returns-clause-unsigned : goal.returns-clause-unsigned
returns-clause-unsigned g c =
    unjoined c.args.book.now.book c.sign_message.new.book.book c.args.top.now c.args.below.now c.args.q c.public-public.result c.args.message.now
    c.in-Ok.signature.items c.public-public.ensures c.sign_message-2.new.book.book c.in-Ok-sign_message.signature.items (omega arith) c.in-Ok.ensures.signs
    (subst (λ (xs : List ℕ). take 4 xs ≡ u32 c.args.q) c.as_slice.ensures.value c.if-not-is_by.ensures) c.in-Ok-sign_message.ensures.signs

pub returns-in-Ok-join_levels-clause-signs : goal.returns-in-Ok-join_levels-clause-signs
returns-in-Ok-join_levels-clause-signs g c =
    let first = c.in-Ok.signature.items in
    let key = c.public-public.result in
    let joined = join_as key first c.in-Ok-sign_message.signature.items c.as_slice-2.result.now c.as_slice-3.result.now c.in-Ok-join_levels.bytes.items
    c.as_slice-2.ensures.value c.as_slice-3.ensures.value c.in-Ok-join_levels.ensures in
    both_signed c.args.book.now.book c.sign_message.new.book.book c.args.top.now c.args.below.now c.args.q key c.args.message.now
    first c.public-public.ensures c.sign_message-2.new.book.book c.in-Ok-sign_message.signature.items c.in-Ok-join_levels.bytes.items (omega arith) c.in-Ok.ensures.signs
    (subst (λ (xs : List ℕ). take 4 xs ≡ u32 c.args.q) c.as_slice.ensures.value c.if-not-is_by.ensures) c.in-Ok-sign_message.ensures.signs joined

pub returns-in-Ok-join_levels-clause-length : goal.returns-in-Ok-join_levels-clause-length
returns-in-Ok-join_levels-clause-length g c =
    let first = c.in-Ok.signature.items in
    let key = c.public-public.result in
    let joined = join_as key first c.in-Ok-sign_message.signature.items c.as_slice-2.result.now c.as_slice-3.result.now c.in-Ok-join_levels.bytes.items
    c.as_slice-2.ensures.value c.as_slice-3.ensures.value c.in-Ok-join_levels.ensures in
    both_length c.args.book.now.book c.sign_message.new.book.book c.args.top.now c.args.below.now c.args.q key c.args.message.now
    first c.public-public.ensures c.in-Ok-sign_message.signature.items c.in-Ok-join_levels.bytes.items (omega arith)
    c.in-Ok.ensures.verifies c.in-Ok-sign_message.ensures.verifies joined

pub returns-in-Ok-join_levels-clause-verifies : goal.returns-in-Ok-join_levels-clause-verifies
returns-in-Ok-join_levels-clause-verifies g c =
    let first = c.in-Ok.signature.items in
    let key = c.public-public.result in
    let joined = join_as key first c.in-Ok-sign_message.signature.items c.as_slice-2.result.now c.as_slice-3.result.now c.in-Ok-join_levels.bytes.items
    c.as_slice-2.ensures.value c.as_slice-3.ensures.value c.in-Ok-join_levels.ensures in
    two_verify (public_by c.args.top.now) key c.args.message.now first c.in-Ok-sign_message.signature.items c.in-Ok-join_levels.bytes.items joined
    c.in-Ok.ensures.verifies
    (subst (λ (k : List ℕ). Verifies k c.args.message.now c.in-Ok-sign_message.signature.items) (sym c.public-public.ensures) c.in-Ok-sign_message.ensures.verifies)
