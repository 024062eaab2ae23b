use Rattle.std.proofs.Common.{◌≡◌, ◌++◌, ℕ, List, take, sym, ap, ◌∙◌}
use Rattle.std.proofs.Math.Seq.{take-append_seam}
use Rattle.lms.specs.declared.Seed.{Seed}
use Rattle.lms.specs.HssKeys.{child_identifier}
use Rattle.lms.proofs.hss_keys.child_of.Goals as goal

pub returns : goal.returns
returns c =
    let seed = c.args.seed.now in
    let front = c.front.result.0.now in
    let back = c.front.result.1.now in
    let cut : take 16 c.derived-hash.result ≡ front
    = ap (take 16) c.front.ensures.whole ∙ ap (λ (n : ℕ). take n (front ++ back)) (sym c.front.ensures.front_len) ∙ take-append_seam front back in
    let identifier : front ≡ child_identifier seed.identifier seed.secret c.args.q = sym cut ∙ ap (take 16) c.derived-hash.ensures in
    let made : List ℕ → List ℕ → Seed = λ i s. record { identifier = i; secret = s } in
    ap (λ (i : List ℕ). made i c.derived.result) identifier ∙ ap (made (child_identifier seed.identifier seed.secret c.args.q)) c.derived.ensures
