use Rattle.std.proofs.Common.{◌≡◌, ℕ, [], ◌++◌, codes, append_assoc}
use Rattle.std.specs.Fmt.{decimal}
use Rattle.http_messages.specs.Bodies.{pruned_text}
use Rattle.http_messages.proofs.bodies.pruned_body.Goals as goal

in_pieces : (blobs rows : ℕ) → [] ++ codes "{\"blobs\":" ++ decimal blobs ++ codes ",\"rows\":" ++ decimal rows ++ codes "}" ≡ pruned_text blobs rows
in_pieces blobs rows = simp append_assoc

pub returns : goal.returns
returns c =
    rw (c.push-5.ensures.items, c.push-4.ensures.items, c.push-3.ensures.items, c.push-2.ensures.items, c.push.ensures.items, c.new-body.ensures, c.as_bytes.ensures.value, c.format.ensures.text, c.as_bytes-2.ensures.value, c.format-2.ensures.text)
    (in_pieces _ _)
