use Rattle.http_messages.proofs.HeadText.{in_pieces}
use Rattle.http_messages.proofs.reply.head_of.Goals as goal

pub returns : goal.returns
returns c =
    rw (c.push-8.ensures.items, c.push_allow.ensures.items, c.push-7.ensures.items, c.push-6.ensures.items, c.push-5.ensures.items, c.push-4.ensures.items, c.push-3.ensures.items, c.push-2.ensures.items, c.push.ensures.items, c.new-head.ensures, c.text.ensures, c.text-2.ensures, c.as_bytes.ensures.value, c.format.ensures.text)
    (in_pieces _ _ _ _)
