use Rattle.std.proofs.Common.{◌≡◌, codes, refl}
use Rattle.std.specs.Ordering.{nat_cmp}
use Rattle.std.proofs.lemmas.Iterator.Adapters.{YieldsList-from_bytes}
use Rattle.std.proofs.lemmas.Iterator.Consumers.{YieldsList-at, YieldsList-from_chain}
use Rattle.std.proofs.lemmas.Iterator.Search.{cmp_from_yields_List}
use Rattle.document_parts.proofs.lookups.compare_files.Goals as goal

pub returns : goal.returns
returns c =
    cmp_from_yields_List (λ x y. y ≡ x) _ nat_cmp _ c.cmp.ensures.ran
    (YieldsList-from_chain
    (YieldsList-at c.chain-file.ensures.first (YieldsList-from_bytes c.args.role.now cc))
    (YieldsList-from_bytes (codes ".json") cc)
    c.chain-file.ensures.first_done
    c.chain-file.ensures.second_done)
    (λ it e. YieldsList-at e (YieldsList-from_chain
    (YieldsList-at c.chain-other_file.ensures.first (YieldsList-from_bytes c.args.other.now cc))
    (YieldsList-from_bytes (codes ".json") cc)
    c.chain-other_file.ensures.first_done
    c.chain-other_file.ensures.second_done))
    (λ x y. refl)
