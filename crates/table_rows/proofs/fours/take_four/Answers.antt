use Rattle.std.proofs.Common.{[], ap, subst, slice_index_or}
use Rattle.std.proofs.lemmas.Result.{on_ok_weaker}
use Rattle.table_rows.specs.steps.Loading.{HasFiles}
use Rattle.table_rows.proofs.FourLemmas.{four_rows, held_by}
use Rattle.table_rows.proofs.fours.take_four.Goals as goal

pub returns : goal.returns
returns c =
    let new = c.take_one-4.new.tested in
    on_ok_weaker c.take_one-4.result (λ took rows p q r s is_p is_q is_r is_s fits files.
    let own = c.digests_of.ensures in
    let one = c.in_ok-take_one.ensures rows p (held_by p c.args.first.now _ c.as_slice-one.ensures.value is_p) is_p.1 (ap (λ d. slice_index_or d 0 []) own) files in
    let two = c.in_ok-take_one-2.ensures _ q (held_by q c.args.second.now _ c.as_slice-two.ensures.value is_q) is_q.1 (ap (λ d. slice_index_or d 1 []) own) one in
    let three = c.in_ok-take_one-3.ensures _ r (held_by r c.args.third.now _ c.as_slice-three.ensures.value is_r) is_r.1 (ap (λ d. slice_index_or d 2 []) own) two in
    subst (λ rs. HasFiles rs new.items.items new.is_spoiled) (four_rows rows p q r s) (took _ s is_s fits (ap (λ d. slice_index_or d 3 []) own) three)) c.take_one-4.ensures
