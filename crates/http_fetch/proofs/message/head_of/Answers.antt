use Rattle.std.proofs.Common.{◌∙◌}
use Rattle.http_fetch.proofs.Saying.{in_eight}
use Rattle.http_fetch.proofs.message.head_of.Goals as goal

pub returns : goal.returns
returns c =
    in_eight _ _ _ _ _ _ _ _ _ _ _ _ _ _ _ _ _ _ _
    (c.in_ok-head.ensures.items ∙ c.text.ensures) c.in_ok-extend_from_slice.ensures.items c.in_ok-extend_from_slice-2.ensures.items c.in_ok-extend_from_slice-3.ensures.items
    c.in_ok-extend_from_slice-4.ensures.items c.in_ok-extend_from_slice-5.ensures.items c.in_ok-extend_from_slice-6.ensures.items c.in_ok-extend_from_slice-7.ensures.items
    c.as_bytes.ensures.value c.as_bytes-2.ensures.value (c.as_bytes-3.ensures.value ∙ c.format.ensures.text)
