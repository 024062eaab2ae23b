use Rattle.std.proofs.Common.{◌≡◌, ◌++◌, ◌/◌, ◌%◌, ℕ, List, ap, ◌∙◌}
use Rattle.lms.specs.Text.{u32}
use Rattle.lms.specs.Keys.{Pair, leaf_count, pair, public_of, signature_of}
use Rattle.lms.specs.HssKeys.{child_of, hss_signature_of}
use Rattle.lms.proofs.HssLaws.{if_ok}
use Rattle.lms.proofs.hss_keys.HssKeyPair.signature.Goals as goal

pub returns : goal.returns
returns c =
    let seed = c.args.self.now.seed in
    let levels = c.args.self.now.levels in
    let g = c.args.g in
    let message = c.args.message.now in
    let n = leaf_count levels.bottom in
    let leaves : c.leaves_below-leaves.result ≡ n = c.leaves_below-leaves.ensures.value in
    let child = child_of seed (g / n) in
    let key = public_of child levels.bottom in
    let made : c.in-Ok.below ≡ pair child levels.bottom = c.in-Ok.ensures ∙ ap (λ (k : ℕ). pair (child_of seed (g / k)) levels.bottom) leaves in
    let public : c.public-public.result ≡ key = c.public-public.ensures ∙ ap (λ (p : Pair). public_of p.seed p.params) made in
    let by_top = signature_of seed levels.top (g / n) key in
    let by_bottom = signature_of child levels.bottom (g % n) message in
    let first : c.in-Ok-signed.first.items ≡ by_top
    = c.in-Ok-signed.ensures
    ∙ ap (λ (p : Pair). signature_of p.seed p.params (g / c.leaves_below-leaves.result) c.public-public.result) c.top.ensures
    ∙ ap (λ (k : ℕ). signature_of seed levels.top (g / k) c.public-public.result) leaves
    ∙ ap (signature_of seed levels.top (g / n)) public in
    let last : c.in-Ok-signed-2.last.items ≡ by_bottom
    = c.in-Ok-signed-2.ensures
    ∙ ap (λ (p : Pair). signature_of p.seed p.params (g % c.leaves_below-leaves.result) message) made
    ∙ ap (λ (k : ℕ). signature_of child levels.bottom (g % k) message) leaves in
    let whole : u32 1 ++ (c.as_slice.result.now ++ (c.public-public.result ++ c.as_slice-2.result.now)) ≡ hss_signature_of seed levels g message
    = ap (λ (xs : List ℕ). u32 1 ++ (xs ++ (c.public-public.result ++ c.as_slice-2.result.now))) (c.as_slice.ensures.value ∙ first)
    ∙ ap (λ (xs : List ℕ). u32 1 ++ (by_top ++ (xs ++ c.as_slice-2.result.now))) public
    ∙ ap (λ (xs : List ℕ). u32 1 ++ (by_top ++ (key ++ xs))) (c.as_slice-2.ensures.value ∙ last) in
    if_ok _ _ c.join_levels.result c.join_levels.ensures (λ bytes is. is ∙ whole)
