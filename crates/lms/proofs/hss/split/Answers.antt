use Rattle.std.proofs.Common.{◌≡◌, ℕ, List, ◌++◌, length, ap, sym, ◌∙◌, arith}
use Rattle.std.proofs.lemmas.List.{length-take-le}
use Rattle.lms.proofs.Readings.{has_types, key_types}
use Rattle.lms.proofs.HssReadings.{joined, length_cut, level_len, split_one, verified_len}
use Rattle.lms.proofs.hss.split.Goals as goal

pub returns-in_err-types-clause-only : goal.returns-in_err-types-clause-only
returns-in_err-types-clause-only c =
    rw c.from_residual.ensures (λ s n l is len v. c.in_err-types.ensures v.lms v.ots (has_types c.args.signer.now n s v))

pub returns-in_err-signature-clause-only : goal.returns-in_err-signature-clause-only
returns-in_err-signature-clause-only c =
    let types = c.in_ok-types.types in
    let key = key_types c.args.signer.now types.lms types.ots types.identifier.now types.root.now c.in_ok-types.ensures in
    rw c.from_residual-in_err-signature.ensures (λ s n l is len v.
    let whole = length_cut c.args.rest.now s n l is in
    let mine = verified_len c.args.signer.now n s types.lms types.ots key v in
    omega (arith, whole, mine, c.in_err-signature.ensures.cases, c.signature_len.ensures))

pub returns-in_err-key-clause-only : goal.returns-in_err-key-clause-only
returns-in_err-key-clause-only c =
    let types = c.in_ok-types.types in
    let key = key_types c.args.signer.now types.lms types.ots types.identifier.now types.root.now c.in_ok-types.ensures in
    rw c.from_residual-in_err-key.ensures (λ s n l is len v.
    let whole = length_cut c.args.rest.now s n l is in
    let mine = verified_len c.args.signer.now n s types.lms types.ots key v in
    let cut = c.in_ok-signature.ensures.cases in
    omega (arith, whole, mine, len, cut.4, c.in_err-key.ensures.cases, c.signature_len.ensures))

pub returns-clause-only : goal.returns-clause-only
returns-clause-only c =
    let types = c.in_ok-types.types in
    let key = key_types c.args.signer.now types.lms types.ots types.identifier.now types.root.now c.in_ok-types.ensures in
    let signature = c.in_ok-signature.signature.now in
    let behind = c.in_ok-signature.behind.now in
    let next = c.in_ok-key.key.now in
    let later = c.in_ok-key.later.now in
    let cut = c.in_ok-signature.ensures.cases in
    let cut_key = c.in_ok-key.ensures.cases in
    let whole : c.args.rest.now ≡ signature ++ (next ++ later)
    = joined c.args.rest.now signature behind c.signature_len.result cut.1 cut.2 ∙ ap (λ (xs : List ℕ). signature ++ xs) (joined behind next later 56 cut_key.0 cut_key.1) in
    let next_len : length next ≡ 56 = ap (length {A = ℕ}) cut_key.0 ∙ length-take-le 56 behind (omega (arith, cut_key.2)) in (
      whole,
      λ s n l is len v.
          let mine = verified_len c.args.signer.now n s types.lms types.ots key v in
          split_one s n l signature next later (mine ∙ sym c.signature_len.ensures ∙ sym cut.3) (len ∙ sym next_len) (sym is ∙ whole),
    )

pub returns-in_err-types-clause-cut : goal.returns-in_err-types-clause-cut
returns-in_err-types-clause-cut c =
    rw c.from_residual.ensures (λ s n l level. c.in_err-types.ensures level.lms level.ots level.types)

pub returns-in_err-signature-clause-cut : goal.returns-in_err-signature-clause-cut
returns-in_err-signature-clause-cut c =
    let types = c.in_ok-types.types in
    let key = key_types c.args.signer.now types.lms types.ots types.identifier.now types.root.now c.in_ok-types.ensures in
    rw c.from_residual-in_err-signature.ensures (λ s n l level.
    let whole = length_cut c.args.rest.now s n l level.whole in
    let mine = level_len c.args.signer.now c.args.rest.now s n l types.lms types.ots key level in
    omega (arith, whole, mine, c.in_err-signature.ensures.cases, c.signature_len.ensures))

pub returns-in_err-key-clause-cut : goal.returns-in_err-key-clause-cut
returns-in_err-key-clause-cut c =
    let types = c.in_ok-types.types in
    let key = key_types c.args.signer.now types.lms types.ots types.identifier.now types.root.now c.in_ok-types.ensures in
    rw c.from_residual-in_err-key.ensures (λ s n l level.
    let whole = length_cut c.args.rest.now s n l level.whole in
    let mine = level_len c.args.signer.now c.args.rest.now s n l types.lms types.ots key level in
    let cut = c.in_ok-signature.ensures.cases in
    omega (arith, whole, mine, level.next_length, cut.4, c.in_err-key.ensures.cases, c.signature_len.ensures))

pub returns-clause-cut : goal.returns-clause-cut
returns-clause-cut c =
    let types = c.in_ok-types.types in
    let key = key_types c.args.signer.now types.lms types.ots types.identifier.now types.root.now c.in_ok-types.ensures in
    let signature = c.in_ok-signature.signature.now in
    let behind = c.in_ok-signature.behind.now in
    let next = c.in_ok-key.key.now in
    let later = c.in_ok-key.later.now in
    let cut = c.in_ok-signature.ensures.cases in
    let cut_key = c.in_ok-key.ensures.cases in
    record {
      lms = types.lms;
      ots = types.ots;
      types = key;
      signature_length = cut.3 ∙ c.signature_len.ensures;
      next_length = ap (length {A = ℕ}) cut_key.0 ∙ length-take-le 56 behind (omega (arith, cut_key.2));
      whole = joined c.args.rest.now signature behind c.signature_len.result cut.1 cut.2 ∙ ap (λ (xs : List ℕ). signature ++ xs) (joined behind next later 56 cut_key.0 cut_key.1);
    }
