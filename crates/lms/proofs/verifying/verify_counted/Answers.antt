use Rattle.std.proofs.Common.{◌≡◌, ℕ, ◌+◌, ap, true, false, sym, ◌∙◌, arith}
use Rattle.std.proofs.lemmas.Slice.Eq.{bytes_eq-Decides}
use Rattle.lms.specs.Chains.{message_hash}
use Rattle.lms.proofs.Counts.{chain_steps_small, height_small}
use Rattle.lms.proofs.Readings.{key_types, key_one, signature_under, count_one, count_within, length_under, has_types, parts_under, verifies, leads_to}
use Rattle.lms.proofs.verifying.verify_counted.Goals as goal

pub returns-in_default-clause-valid : goal.returns-in_default-clause-valid
returns-in_default-clause-valid c = (
  λ h. absurd (let e : false ≡ true = h in cc),
  λ v. absurd (c.in_default.ensures v.lms v.ots (has_types c.args.public.now c.args.message.now c.args.signature.now v)),
)

pub returns-in_default-read_signature-clause-valid : goal.returns-in_default-read_signature-clause-valid
returns-in_default-read_signature-clause-valid c = (
  λ h. absurd (let e : false ≡ true = h in cc),
  λ v. absurd (c.in_default-read_signature.ensures v.q v.randomizer v.elements v.path
      (parts_under c.args.public.now c.args.message.now c.args.signature.now v c.in-Some.key.lms c.in-Some.key.ots c.in-Some.key.identifier.now c.in-Some.key.root.now c.in-Some.ensures)),
)

pub returns-clause-valid : goal.returns-clause-valid
returns-clause-valid c =
    let key = c.in-Some.key in
    let parts = c.in-Some-read_signature.parts in
    let decides = bytes_eq-Decides c.root_of.result key.root.now in (
      λ h. verifies c.args.public.now c.args.message.now c.args.signature.now key.lms key.ots key.identifier.now key.root.now parts.q parts.randomizer.now parts.elements.now parts.path.now
          c.in-Some.ensures c.in-Some-read_signature.ensures (sym c.root_of.ensures.value ∙ decides.0 (sym c.eq.ensures ∙ h)),
      λ v. c.eq.ensures ∙ decides.1 (c.root_of.ensures.value
          ∙ leads_to c.args.public.now c.args.message.now c.args.signature.now key.lms key.ots key.identifier.now key.root.now parts.q parts.randomizer.now parts.elements.now parts.path.now
          c.in-Some.ensures c.in-Some-read_signature.ensures v),
    )

pub returns-in_default-clause-counted : goal.returns-in_default-clause-counted
returns-in_default-clause-counted c lms ots i root q r e p key is =
    absurd (c.in_default.ensures lms ots (key_types c.args.public.now lms ots i root key))

pub returns-in_default-read_signature-clause-counted : goal.returns-in_default-read_signature-clause-counted
returns-in_default-read_signature-clause-counted c lms ots i root q r e p key is =
    let found = c.in-Some.key in
    let same = key_one c.args.public.now lms ots i root found.lms found.ots found.identifier.now found.root.now key c.in-Some.ensures in
    absurd (c.in_default-read_signature.ensures q r e p (signature_under lms ots found.lms found.ots c.args.signature.now q r e p same.same_lms same.same_ots is))

pub returns-clause-counted : goal.returns-clause-counted
returns-clause-counted c lms ots i root q r e p key is =
    let found = c.in-Some.key in
    let parts = c.in-Some-read_signature.parts in
    c.root_of.ensures.count ∙ ap (λ (n : ℕ). c.args.steps.now + n)
    (count_one c.args.public.now c.args.message.now c.args.signature.now
    found.lms found.ots found.identifier.now found.root.now parts.q parts.randomizer.now parts.elements.now parts.path.now
    lms ots i root q r e p c.in-Some.ensures c.in-Some-read_signature.ensures key is)

pub returns-clause-unread : goal.returns-clause-unread
returns-clause-unread c lms ots types other =
    let found = c.in-Some.key in
    let parts = c.in-Some-read_signature.parts in
    absurd (other (length_under c.args.public.now c.args.signature.now
    found.lms found.ots found.identifier.now found.root.now parts.q parts.randomizer.now parts.elements.now parts.path.now
    lms ots c.in-Some.ensures c.in-Some-read_signature.ensures types))

pub returns-clause-refused : goal.returns-clause-refused
returns-clause-refused c none =
    let key = c.in-Some.key in
    let parts = c.in-Some-read_signature.parts in
    absurd (none key.lms key.ots key.identifier.now key.root.now parts.q parts.randomizer.now parts.elements.now parts.path.now
    c.in-Some.ensures c.in-Some-read_signature.ensures)

pub returns-clause-bound : goal.returns-clause-bound
returns-clause-bound c lms ots types =
    let found = c.in-Some.key in
    let parts = c.in-Some-read_signature.parts in
    omega (
      arith,
      c.root_of.ensures.count,
      count_within c.args.public.now c.args.message.now found.lms found.ots found.identifier.now found.root.now parts.q parts.randomizer.now
          lms ots c.in-Some.ensures types,
    )

pub returns-clause-most : goal.returns-clause-most
returns-clause-most c =
    let found = c.in-Some.key in
    let parts = c.in-Some-read_signature.parts in
    let steps = chain_steps_small found.ots (message_hash found.identifier.now parts.q parts.randomizer.now c.args.message.now) in
    omega (arith, c.root_of.ensures.count, steps, height_small found.lms)

pub returns-clause-grows : goal.returns-clause-grows
returns-clause-grows c = omega (arith, c.root_of.ensures.count)
