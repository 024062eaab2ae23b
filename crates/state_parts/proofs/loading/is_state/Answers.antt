use Rattle.std.proofs.Common.{sym, arith}
use Rattle.std.proofs.lemmas.Bool.{true≢false}
use Rattle.std.proofs.lemmas.List.{length-map}
use Rattle.state_parts.specs.Views.{effects_view}
use Rattle.trust_rules.proofs.FilesMakeStates.{is_laid, laid_shelf, laid_bare}
use Rattle.state_parts.proofs.loading.is_state.Goals as goal

pub returns-then-not-is_shelf : goal.returns-then-not-is_shelf
returns-then-not-is_shelf c =
    let E = effects_view c.args.files.now in
    let tells = rw c.deref.ensures.value at c.if-not-is_shelf.ensures in
    ((λ t. absurd (true≢false (sym t))), (λ s. absurd (true≢false (sym (tells.1 (laid_shelf E s))))))

pub returns : goal.returns
returns c =
    let E = effects_view c.args.files.now in
    let shelf = rw c.deref.ensures.value at (c.is_shelf.ensures.0 c.if-not-is_shelf.false) in
    let blobs = rw c.deref-2.ensures.value at (c.are_blobs.ensures.0 c.if-not-are_blobs.false) in (
      (λ t. is_laid E (simp length-map (omega (arith, c.args.files.now.changes.roots.ok.0))) shelf blobs
          (c.are_under_root.ensures.some t) (c.are_under_root.ensures.none t)),
      (λ s. c.are_under_root.ensures.otherwise s.trusted.held (laid_bare E s)),
    )
