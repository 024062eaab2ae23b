-- What a search finds is listed by a role that a chain of good covering edges reaches.
use Rattle.std.proofs.Common.{◌≡◌, ℕ, zero, suc, ◌≤◌, IsSomeAnd, List, [], ◌∷◌, ◌++◌, length, take, Some, Ok, refl, sym, ap, ◌∙◌, subst, nat_lt}
use Rattle.std.proofs.lemmas.Bool.{ltb-true, ltb-false}
use Rattle.std.proofs.lemmas.List.{take_all}
use Rattle.document_parts.specs.Documents.{Targets, Listing}
use Rattle.metadata.specs.File.{Bytes, File}
use Rattle.delegations.specs.Delegation.{Edge, chain_end}
use Rattle.delegations.specs.Search.{Shelf, Found, Good, IsSoundly, doc, visit, listing_of, search}
use Rattle.delegations.specs.steps.Course.{here}
use Rattle.delegations.proofs.Ended.{Ends, Led, finds, search_ended, led_here, last_number}
use Rattle.delegations.proofs.GoodVisits.{visits_good}
use Rattle.delegations.proofs.Walk.{by_test}

one_edge : (x y : Edge) → Some x ≡ Some y → x ≡ y
one_edge x y h = cc

module _ (V : Shelf) (path : Bytes) (now : ℕ) where
  by_chain : (e : Edge) (file : File Targets) (l : Listing) → Led V (here V path) now e → visit V e now (Ok file) → listing_of file.body path ≡ Some l
      → IsSoundly V path now (record { role = e.role; listing = l })
  by_chain e file l c seen is = record { chain = c.chain; last = e; leads = c.leads; ends = refl; good = good; lists = lists }
    where
      g : (z : Good V e now) × (z.file ≡ file)
      g = (visits_good V e now file).0 seen

      there : doc V e.role ≡ Some file
      there = subst (λ f. doc V e.role ≡ Some f) g.1 g.0.there

      lists : IsSomeAnd (doc V e.role) (λ f. listing_of f.body path ≡ Some l)
      lists = subst (λ o. IsSomeAnd o (λ f. listing_of f.body path ≡ Some l)) (sym there) is

      good : (k : ℕ) (x : Edge) → k ≤ length c.chain → chain_end (here V path) (take k c.chain) ≡ Some x → Good V x now
      good k x few ends = by_test (nat_lt k (length c.chain))
          (λ t. c.good k x (ltb-true k (length c.chain) t) ends)
          (λ t. let whole = ap (λ d. chain_end (here V path) d) (take_all k c.chain (ltb-false k (length c.chain) t)) in
          subst (λ z. Good V z now) (one_edge e x (sym c.leads ∙ sym whole ∙ ends)) g.0)

  found_by : (found : Found) (left : ℕ) (rest : List Edge) → Ends V path now (last_number V path) left rest (Ok found) → ((e : Edge) (es : List Edge) → rest ≡ e ∷ es → Led V (here V path) now e)
      → IsSoundly V path now found
  found_by found zero rest h chain = elim h [ ]
  found_by found (suc left) [] h chain = elim h [ ]
  found_by _ (suc left) (e ∷ es) (finds file l seen is) chain = by_chain e file l (chain e es refl) seen is

pub sound : (V : Shelf) (path : Bytes) (now : ℕ) (found : Found) → search V path now (Ok found) → IsSoundly V path now found
sound V path now found h =
    let r = search_ended V path now (Ok found) h in
    found_by V path now found r.left r.rest r.ends (λ e es at. led_here V path now r.taken es e (r.split ∙ ap (λ xs. r.taken ++ xs) at) r.on)
