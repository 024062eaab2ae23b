use Rattle.std.proofs.Common.{rules, ◌∙◌, ap, refl, List, ℕ, [], ◌∷◌, codes}
use Rattle.std.proofs.lemmas.Result.{err_from_is_err_and}
use Rattle.verdicts.proofs.Making.{eight, parts_made}
use Rattle.verdicts.proofs.Signing.{by_fault}
use Rattle.verdicts.proofs.case.hss_made_case.Goals as goal

pub returns-in_err-array_of-2-clause-fault : goal.returns-in_err-array_of-2-clause-fault
returns-in_err-array_of-2-clause-fault c =
    let parts = eight c.args.parts.now record { ref_ptr = (0, 0); now = [] } c.in-len8.len_at_least c.in-len8.len_below in
    let p = err_from_is_err_and c.from_residual-in_err-array_of-2.result c.from_residual-in_err-array_of-2.ensures.1 in
    rw (p.1, p.2, parts) (by_fault _ _ _ c.in_err-array_of-2.ensures.fault (λ bad d is. let made = parts_made _ _ _ _ _ _ _ _ d is in bad made.secret made.secret_bytes.0 made.secret_bytes.1 made.secret_is))

pub returns-in_err-leaf_of-clause-fault : goal.returns-in_err-leaf_of-clause-fault
returns-in_err-leaf_of-clause-fault c =
    let parts = eight c.args.parts.now record { ref_ptr = (0, 0); now = [] } c.in-len8.len_at_least c.in-len8.len_below in
    let p = err_from_is_err_and c.from_residual-in_err-leaf_of.result c.from_residual-in_err-leaf_of.ensures.1 in
    rw (p.1, p.2, parts) (by_fault _ _ _ c.in_err-leaf_of.ensures.fault (λ bad d is. let made = parts_made _ _ _ _ _ _ _ _ d is in bad made.leaf made.leaf_small made.leaf_is))

pub returns-in_err-bytes_of-clause-fault : goal.returns-in_err-bytes_of-clause-fault
returns-in_err-bytes_of-clause-fault c =
    let parts = eight c.args.parts.now record { ref_ptr = (0, 0); now = [] } c.in-len8.len_at_least c.in-len8.len_below in
    let p = err_from_is_err_and c.from_residual-in_err-bytes_of.result c.from_residual-in_err-bytes_of.ensures.1 in
    rw (p.1, p.2, parts) (by_fault _ _ _ c.in_err-bytes_of.ensures.fault (λ bad d is. let made = parts_made _ _ _ _ _ _ _ _ d is in bad made.message made.message_bytes made.message_is))

pub returns-clause-case : goal.returns-clause-case
returns-clause-case c =
    let parts = eight c.args.parts.now record { ref_ptr = (0, 0); now = [] } c.in-len8.len_at_least c.in-len8.len_below in
    let i = c.in_ok-array_of.ensures.bytes in
    let s = c.in_ok-array_of-2.ensures.bytes in
    let m = c.in_ok-bytes_of.ensures.bytes in (
      ap (λ (ws : List (List ℕ)). codes "hss_made" ∷ ws) parts
          ∙ rw (c.in_ok-ots_of.ensures.ots, c.in_ok-height_of.ensures.height, c.in_ok-ots_of-2.ensures.ots, c.in_ok-height_of-2.ensures.height, i.0, s.0, c.in_ok-leaf_of.ensures.leaf, m.0) refl,
      (i.1, i.2),
      (s.1, s.2),
      search rules,
      m.1,
    )
