use Rattle.std.proofs.Common.{Bool, MatchBool}
use Rattle.canonical_json.specs.Json.{Json}
use Rattle.canonical_json.specs.Spelling.{IsCanonical}
use Rattle.signer.specs.Versions.{AreRivals}
use Rattle.signer.proofs.Rivals.{rivals_are}
use Rattle.signer.proofs.SignedFiles.{if_ok}
use Rattle.signer.proofs.versions.are_rivals.Goals as goal

pub returns : goal.returns
returns c =
    let m = c.args.message.now in
    let n = c.args.other.now in
    if_ok (λ (r : Bool). MatchBool r ((w : Json) × IsCanonical w n) ((w : Json) → IsCanonical w n → ⊥)) (λ (r : Bool). MatchBool r (AreRivals m n) (AreRivals m n → ⊥)) c.is_canonical.result c.is_canonical.ensures
    (rivals_are m n c.requires.0 c.requires.1 c.if-is_same.ensures c.if-not-same_member.ensures c.if-not-same_member-2.ensures)
