use Rattle.std.proofs.Common.{rules, ◌∙◌, ap, refl, List, ℕ, [], ◌∷◌, codes}
use Rattle.std.proofs.lemmas.Result.{err_from_is_err_and}
use Rattle.verdicts.proofs.Signing.{six, by_fault, no_message}
use Rattle.verdicts.proofs.case.sign_case.Goals as goal

pub returns-in_err-bytes_of-clause-fault : goal.returns-in_err-bytes_of-clause-fault
returns-in_err-bytes_of-clause-fault c =
    let parts = six c.args.parts.now record { ref_ptr = (0, 0); now = [] } c.in-len6.len_at_least c.in-len6.len_below in
    let p = err_from_is_err_and c.from_residual-in_err-bytes_of.result c.from_residual-in_err-bytes_of.ensures.1 in
    rw (p.1, p.2, parts) (by_fault _ _ _ c.in_err-bytes_of.ensures.fault (no_message _ _ _ _ _ _))

pub returns-clause-case : goal.returns-clause-case
returns-clause-case c =
    let parts = six c.args.parts.now record { ref_ptr = (0, 0); now = [] } c.in-len6.len_at_least c.in-len6.len_below in
    let i = c.in_ok-array_of.ensures.bytes in
    let s = c.in_ok-array_of-2.ensures.bytes in
    let m = c.in_ok-bytes_of.ensures.bytes in (
      ap (λ (ws : List (List ℕ)). codes "sign" ∷ ws) parts
          ∙ rw (c.in_ok-ots_of.ensures.ots, c.in_ok-height_of.ensures.height, i.0, s.0, c.in_ok-leaf_of.ensures.leaf, m.0) refl,
      (i.1, i.2),
      (s.1, s.2),
      search rules,
      m.1,
    )
