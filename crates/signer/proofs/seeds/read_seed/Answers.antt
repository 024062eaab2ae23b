use Rattle.std.proofs.Common.{◌≡◌, ℕ, ◌-◌, List, length, length-take-le, length-drop, take, drop, true, false, IsTrue, subst, sym, ◌∙◌, arith}
use Rattle.keys_roles.specs.Rules.{AreDigitsOf}
use Rattle.signer.proofs.SeedFiles.{digits_length, file_parts, parts_of}
use Rattle.signer.proofs.seeds.read_seed.Goals as goal
use Rattle.signer.proofs.seeds.read_seed.Goals.{then-file-ne97-via-then-file-ne97, then-file-ne97-via-else-file-ne97+then-file-ne10}
use Rattle.signer.proofs.seeds.read_seed.Goals.{then-not-read_digits-via-then-not-read_digits, then-not-read_digits-via-else-not-read_digits+then-not-read_digits-2}

pub returns-then-file-ne97-clause-none : goal.returns-then-file-ne97-clause-none
returns-then-file-ne97-clause-none c seed f =
    let p = file_parts c.args.file.now seed f in
    elim c.then-file-ne97.branch [
      | then-file-ne97-via-then-file-ne97 w ↦ w.if-file-ne97.true p.sized
      | then-file-ne97-via-else-file-ne97+then-file-ne10 w ↦ w.if-file-ne10.true p.last
    ]

pub slice_bounds-read_digits-end : goal.slice_bounds-read_digits-end
slice_bounds-read_digits-end c = sym (length-take-le 32 c.args.file.now (omega (arith, c.if-file-ne97.false)))

pub read_digits-requires : goal.read_digits-requires
read_digits-requires c = length-take-le 32 c.args.file.now (omega (arith, c.if-file-ne97.false))

pub returns-then-not-read_digits-clause-none : goal.returns-then-not-read_digits-clause-none
returns-then-not-read_digits-clause-none c seed f =
    let p = file_parts c.args.file.now seed f in
    let first : IsTrue c.read_digits.result
    = (c.read_digits.ensures.all seed.identifier (subst (λ (d : List ℕ). AreDigitsOf d seed.identifier) (sym p.front) f.identifier_digits)).0 in
    elim c.then-not-read_digits.branch [
      | then-not-read_digits-via-then-not-read_digits w ↦ (let e : false ≡ true = sym w.if-not-read_digits.true ∙ first in cc)
      | then-not-read_digits-via-else-not-read_digits+then-not-read_digits-2 w ↦
          let second = (w.read_digits-else-not-read_digits.ensures.all seed.secret (subst (λ (d : List ℕ). AreDigitsOf d seed.secret) (sym p.middle) f.secret_digits)).0 in
          (let e : false ≡ true = sym w.if-not-read_digits-2.true ∙ second in cc)
    ]

pub returns-clause-some : goal.returns-clause-some
returns-clause-some c =
    let file = c.args.file.now in
    let first = c.read_digits.ensures.read c.if-not-read_digits.false in
    let second = c.read_digits-else-not-read_digits.ensures.read c.if-not-read_digits-2.false in
    let front = length-take-le 32 file (omega (arith, c.if-file-ne97.false)) in
    let rest : length (drop 32 file) ≡ 65 = length-drop 32 file ∙ (let n : length file - 32 ≡ 65 = omega (arith, c.if-file-ne97.false) in n) in
    let middle = length-take-le 64 (drop 32 file) (omega arith) in
    record {
      identifier = take 32 file;
      secret = take 64 (drop 32 file);
      identifier_digits = first;
      secret_digits = second;
      identifier_len = omega (arith, digits_length _ _ first, front);
      secret_len = omega (arith, digits_length _ _ second, middle);
      file_is = parts_of file c.if-file-ne97.false c.if-file-ne10.false;
    }
