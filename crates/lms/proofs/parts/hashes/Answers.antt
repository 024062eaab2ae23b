use Rattle.std.proofs.Common.{◌≡◌, ℕ, ◌/◌, ◌++◌, List, length, ap, sym, ◌∙◌, arith}
use Rattle.std.specs.List.{concat}
use Rattle.std.specs.Simd.{first_chunks}
use Rattle.lms.proofs.Bytes.{chunks_join, chunks_each}
use Rattle.lms.proofs.parts.hashes.Goals as goal

pub returns-clause-whole : goal.returns-clause-whole
returns-clause-whole c =
    let front = c.split_at.result.0.now in
    let n : length front / 32 ≡ c.args.count = omega arith in
    let e = c.as_chunks.ensures.front ∙ ap (λ (k : ℕ). first_chunks 32 k front) n in
    let joined : concat c.as_chunks.result.0.now ≡ front = ap concat e ∙ chunks_join c.args.count front (omega arith) in
    c.split_at.ensures.by_index.0 ∙ ap (λ (xs : List ℕ). xs ++ c.split_at.result.1.now) (sym joined)

pub returns-clause-each : goal.returns-clause-each
returns-clause-each c =
    let front = c.split_at.result.0.now in
    let n : length front / 32 ≡ c.args.count = omega arith in
    let e = c.as_chunks.ensures.front ∙ ap (λ (k : ℕ). first_chunks 32 k front) n in
    rw e (chunks_each c.args.count front (omega arith))
