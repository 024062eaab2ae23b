-- The lines before a body, piece by piece.
use Rattle.std.proofs.Common.{◌≡◌, ℕ, [], ◌∷◌, ◌++◌, append_assoc, codes, Option}
use Rattle.std.specs.Fmt.{decimal}
use Rattle.http_messages.specs.Text.{status_text, kind_text, allow_line, head_text}
use Rattle.http_messages.specs.declared.reply.Status.{Status}
use Rattle.http_messages.specs.declared.reply.Kind.{Kind}
use Rattle.http_messages.specs.declared.reply.Method.{Method}

pub in_pieces : (status : Status) (kind : Kind) (len : ℕ) (allow : Option Method)
    → [] ++ codes "HTTP/1.1 " ++ status_text status ++ (13 ∷ 10 ∷ codes "Content-Type: ") ++ kind_text kind ++ (13 ∷ 10 ∷ codes "Content-Length: ") ++ decimal len ++ (13 ∷ 10 ∷ []) ++ allow_line allow ++ (codes "Connection: close" ++ 13 ∷ 10 ∷ 13 ∷ 10 ∷ [])
    ≡ head_text status kind len allow
unfolding head_text
in_pieces status kind len allow = simp append_assoc
