use Rattle.std.proofs.Common.{◌≡◌, ℕ, List, [], ◌∷◌, ◌++◌, codes, refl, ap, ◌∙◌}
use Rattle.std.specs.Ordering.{nat_cmp}
use Rattle.std.proofs.lemmas.Iterator.Adapters.{YieldsList-from_bytes}
use Rattle.std.proofs.lemmas.Iterator.Consumers.{YieldsList-at, YieldsList-from_chain}
use Rattle.std.proofs.lemmas.Iterator.Search.{cmp_from_yields_List}
use Rattle.document_parts.specs.Sorted.{compared}
use Rattle.document_parts.proofs.artifacts.compare_path.Goals as goal

joined : (a b : List ℕ) → (a ++ codes "/") ++ b ≡ a ++ 47 ∷ b
joined [] b = refl
joined (x ∷ a) b = ap (λ z. x ∷ z) (joined a b)

pub returns : goal.returns
returns c =
    cmp_from_yields_List (λ x y. y ≡ x) _ nat_cmp _ c.cmp.ensures.ran
    (YieldsList-from_bytes c.args.path.now cc)
    (λ it e. YieldsList-at e (YieldsList-from_chain
    (YieldsList-at c.chain-other.ensures.first (YieldsList-from_chain
    (YieldsList-at c.chain-start.ensures.first (YieldsList-from_bytes c.args.folder.now cc))
    (YieldsList-from_bytes (codes "/") cc)
    c.chain-start.ensures.first_done
    c.chain-start.ensures.second_done))
    (YieldsList-from_bytes c.args.rest.now cc)
    c.chain-other.ensures.first_done
    c.chain-other.ensures.second_done))
    (λ x y. refl)
    ∙ ap (compared c.args.path.now) (joined c.args.folder.now c.args.rest.now)
