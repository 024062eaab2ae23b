use Rattle.std.proofs.Common.{ℕ, List, MatchBool, arith, ap, subst, ◌++◌, ◌∙◌, ◌≡◌}
use Rattle.lms.specs.declared.Seed.{Seed}
use Rattle.lms.specs.Keys.{Pair}
use Rattle.lms.specs.HssKeys.{child_of}
use Rattle.lms.specs.Parameters.{lms_code, ots_code, signing_type}
use Rattle.lms.specs.Text.{IsHash, u32}
use Rattle.signer.proofs.KeptTrees.{key_is}
use Rattle.signer.proofs.trees.is_key_below.Goals as goal

pub returns-clause-key : goal.returns-clause-key
returns-clause-key c =
    let p = c.args.pair.now in
    let bottom = p.levels.bottom in
    let bytes = c.args.bytes.now in
    let found : List ℕ = c.child_of-seed.result.identifier in
    let at : c.seed.result.now ≡ p.seed = c.seed.ensures ∙ ap (λ (t : Pair). t.seed) c.top.ensures in
    let same : found ≡ (child_of p.seed c.args.q).identifier =
    ap (λ (s : Seed). s.identifier) c.child_of-seed.ensures ∙ ap (λ (s : Seed). (child_of s c.args.q).identifier) at in
    let height : c.lms_code.result ≡ lms_code (signing_type bottom.height) = c.lms_code.ensures ∙ ap (λ l. lms_code (signing_type l.bottom.height)) c.levels.ensures in
    let wide : c.code_of.result ≡ ots_code bottom.ots = c.code_of.ensures ∙ ap (λ l. ots_code l.bottom.ots) c.levels.ensures in
    subst (λ (i : List ℕ). MatchBool c.is_same-3.result ((root : List ℕ) × IsHash root × (bytes ≡ u32 (lms_code (signing_type bottom.height)) ++ u32 (ots_code bottom.ots) ++ i ++ root))
    ((root : List ℕ) × IsHash root × (bytes ≡ u32 (lms_code (signing_type bottom.height)) ++ u32 (ots_code bottom.ots) ++ i ++ root) → ⊥)) same
    (key_is bytes found (lms_code (signing_type bottom.height)) (ots_code bottom.ots) c.is_same-3.result c.if-bytes-ne56.false (omega arith)
    (c.if-not-is_same.ensures ∙ c.to_be_bytes.ensures ∙ ap u32 height) (c.if-not-is_same-2.ensures ∙ c.to_be_bytes-2.ensures ∙ ap u32 wide) c.is_same-3.ensures)
