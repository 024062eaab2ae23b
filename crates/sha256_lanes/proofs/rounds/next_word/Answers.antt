use Rattle.std.proofs.Common.{◌≡◌, ◌+◌, ◌%◌, arith, refl}
use Rattle.sha256_lanes.proofs.LaneLemmas.{column_at}
use Rattle.sha256_lanes.proofs.rounds.next_word.Goals as goal

pub returns-clause-value : goal.returns-clause-value
returns-clause-value c j h =
    let w = c.args.w.now in
    let p = c.args.place in
    let at : p % 16 ≡ p = omega arith in
    rw (
      at,
      column_at w j ((p + 14) % 16) (omega arith),
      column_at w j ((p + 9) % 16) (omega arith),
      column_at w j ((p + 1) % 16) (omega arith),
      column_at w j p (omega arith),
      c.add-word.ensures j h,
      c.add.ensures j h,
      c.add-sum.ensures j h,
      c.lower_sigma1.ensures j h,
      c.lower_sigma0.ensures j h,
    ) refl
