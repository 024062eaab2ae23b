-- Where the root requires no layouts, a request for a target has the end that it had before roots had profiles.
use Rattle.std.proofs.Common.{◌≡◌, ◌↔◌, ℕ, List, [], true, false, Option, Some, None, unwrap_or, Ok, Err, sym, ap, ◌∙◌, subst}
use Rattle.std.specs.List.{list_any}
use Rattle.std.specs.Prelude.{IfSome}
use Rattle.path_patterns.specs.Tests.{matches_segmented}
use Rattle.document_parts.specs.Bodies.{HasRequired}
use Rattle.document_parts.specs.Covers.{requires_layout}
use Rattle.document_parts.specs.Documents.{LayoutReference, Listing, Profile, Root, first_profile}
use Rattle.metadata.specs.File.{Bytes, File, IsFileOf, root_form}
use Rattle.denials.specs.Orders.{Judged, pass, decide, holds, fails, given, judges}
use Rattle.delegations.specs.Search.{Found, Shelf, search, shelf_of}
use Rattle.trust_rules.specs.Before.{grants_before, reference_allows_before, support_before}
use Rattle.trust_rules.specs.Grants.{grants, HasNeeded, reference_allows, searched, support}
use Rattle.trust_rules.specs.State.{IsHeldUnder, IsRootChain, IsState, State, first, then}
use Rattle.trust_rules.proofs.LinesGive.{needed}
use Rattle.trust_rules.proofs.PrunedStates.{each_same}

nothing_needed : (root : Root) → root.required ≡ None → (path : Bytes) (l : Listing) → HasNeeded root path l
nothing_needed root none path l needs =
    let not : requires_layout root path ≡ false = ap (λ (o : Option (List (List ℕ))). list_any (λ p. matches_segmented p path) (unwrap_or o [])) none in
    let e : false ≡ true = sym not ∙ needs in
    absurd (cc)

module _ (root : Root) (none : root.required ≡ None) (V : Shelf) (now : ℕ) where
  to_search : (path : Bytes) (j : Judged Found) → searched root V path now j → search V path now j
  to_search path _ (decide h) = h
  to_search path _ (pass {a = found} h (decide (fails f))) = absurd (f (nothing_needed root none path found.listing))
  to_search path _ (pass h (pass c given)) = h

  to_searched : (path : Bytes) (j : Judged Found) → search V path now j → searched root V path now j
  to_searched path (Ok found) h = pass h (pass (holds (nothing_needed root none path found.listing)) given)
  to_searched path (Err s) h = decide h

  module _ (S : State) where
    support_then : (path : Bytes) (r : Judged Bytes) → support S root V now path r → support_before S V now path r
    support_then path _ (decide (judges h k)) = decide (judges (to_search path _ h) k)
    support_then path _ (pass (judges h k) n) = pass (judges (to_search path _ h) k) n

    support_now : (path : Bytes) (r : Judged Bytes) → support_before S V now path r → support S root V now path r
    support_now path _ (decide (judges h k)) = decide (judges (to_searched path _ h) k)
    support_now path _ (pass (judges h k) n) = pass (judges (to_searched path _ h) k) n

    allows_then : (l : Listing) (o : Option LayoutReference) (r : Judged (Unit {0})) → reference_allows S root V now l o r → reference_allows_before S V now l o r
    allows_then l None r h = h
    allows_then l (Some reference) _ (decide h) = decide (support_then reference.path _ h)
    allows_then l (Some reference) _ (pass h (decide k)) =
        pass (support_then reference.path _ h) (decide (each_same (support S root V now) (support_before S V now) support_then reference.links _ k))
    allows_then l (Some reference) _ (pass h (pass k n)) =
        pass (support_then reference.path _ h) (pass (each_same (support S root V now) (support_before S V now) support_then reference.links _ k) n)

    allows_now : (l : Listing) (o : Option LayoutReference) (r : Judged (Unit {0})) → reference_allows_before S V now l o r → reference_allows S root V now l o r
    allows_now l None r h = h
    allows_now l (Some reference) _ (decide h) = decide (support_now reference.path _ h)
    allows_now l (Some reference) _ (pass h (decide k)) =
        pass (support_now reference.path _ h) (decide (each_same (support_before S V now) (support S root V now) support_now reference.links _ k))
    allows_now l (Some reference) _ (pass h (pass k n)) =
        pass (support_now reference.path _ h) (pass (each_same (support_before S V now) (support S root V now) support_now reference.links _ k) n)

module _ (S : State) (none : (root : File Root) → S.trusted.root ≡ Some root → root.body.required ≡ None) where
  grants_then : (path : Bytes) (asked : Option Bytes) (now : ℕ) (r : Judged Bytes) → grants S path asked now r → grants_before S path asked now r
  grants_then path asked now _ (decide (decide h)) = decide (decide h)
  grants_then path asked now _ (decide (pass h (decide k))) = decide (pass h (decide k))
  grants_then path asked now _ (decide (pass h (pass k (decide l)))) = decide (pass h (pass k (decide l)))
  grants_then path asked now _ (decide (pass h (pass {a = root} k (pass {a = snap} l (decide m))))) =
      decide (pass h (pass k (pass l (decide (to_search root.body (none root (needed _ S.trusted.root root k)) (shelf_of root snap S.trusted.shelf) now path _ m)))))
  grants_then path asked now _ (decide (pass h (pass k (pass l (pass m n))))) = elim n [ ]
  grants_then path asked now _ (pass (pass h (pass {a = root} k (pass {a = snap} l (pass {a = found} m given)))) (decide n)) =
      pass (pass h (pass k (pass l (pass (to_search root.body (none root (needed _ S.trusted.root root k)) (shelf_of root snap S.trusted.shelf) now path _ m) given)))) (decide n)
  grants_then path asked now _ (pass (pass h (pass {a = root} k (pass {a = snap} l (pass {a = found} m given)))) (pass n (decide q))) =
      pass (pass h (pass k (pass l (pass (to_search root.body (none root (needed _ S.trusted.root root k)) (shelf_of root snap S.trusted.shelf) now path _ m) given))))
      (pass n (decide (allows_then root.body (none root (needed _ S.trusted.root root k)) (shelf_of root snap S.trusted.shelf) now S found.listing found.listing.layout _ q)))
  grants_then path asked now _ (pass (pass h (pass {a = root} k (pass {a = snap} l (pass {a = found} m given)))) (pass n (pass q t))) =
      pass (pass h (pass k (pass l (pass (to_search root.body (none root (needed _ S.trusted.root root k)) (shelf_of root snap S.trusted.shelf) now path _ m) given))))
      (pass n (pass (allows_then root.body (none root (needed _ S.trusted.root root k)) (shelf_of root snap S.trusted.shelf) now S found.listing found.listing.layout _ q) t))

  grants_now : (path : Bytes) (asked : Option Bytes) (now : ℕ) (r : Judged Bytes) → grants_before S path asked now r → grants S path asked now r
  grants_now path asked now _ (decide (decide h)) = decide (decide h)
  grants_now path asked now _ (decide (pass h (decide k))) = decide (pass h (decide k))
  grants_now path asked now _ (decide (pass h (pass k (decide l)))) = decide (pass h (pass k (decide l)))
  grants_now path asked now _ (decide (pass h (pass {a = root} k (pass {a = snap} l (decide m))))) =
      decide (pass h (pass k (pass l (decide (to_searched root.body (none root (needed _ S.trusted.root root k)) (shelf_of root snap S.trusted.shelf) now path _ m)))))
  grants_now path asked now _ (decide (pass h (pass k (pass l (pass m n))))) = elim n [ ]
  grants_now path asked now _ (pass (pass h (pass {a = root} k (pass {a = snap} l (pass {a = found} m given)))) (decide n)) =
      pass (pass h (pass k (pass l (pass (to_searched root.body (none root (needed _ S.trusted.root root k)) (shelf_of root snap S.trusted.shelf) now path _ m) given)))) (decide n)
  grants_now path asked now _ (pass (pass h (pass {a = root} k (pass {a = snap} l (pass {a = found} m given)))) (pass n (decide q))) =
      pass (pass h (pass k (pass l (pass (to_searched root.body (none root (needed _ S.trusted.root root k)) (shelf_of root snap S.trusted.shelf) now path _ m) given))))
      (pass n (decide (allows_now root.body (none root (needed _ S.trusted.root root k)) (shelf_of root snap S.trusted.shelf) now S found.listing found.listing.layout _ q)))
  grants_now path asked now _ (pass (pass h (pass {a = root} k (pass {a = snap} l (pass {a = found} m given)))) (pass n (pass q t))) =
      pass (pass h (pass k (pass l (pass (to_searched root.body (none root (needed _ S.trusted.root root k)) (shelf_of root snap S.trusted.shelf) now path _ m) given))))
      (pass n (pass (allows_now root.body (none root (needed _ S.trusted.root root k)) (shelf_of root snap S.trusted.shelf) now S found.listing found.listing.layout _ q) t))

  pub grants_as_before : (path : Bytes) (asked : Option Bytes) (now : ℕ) (r : Judged Bytes) → grants S path asked now r ↔ grants_before S path asked now r
  grants_as_before path asked now r = (grants_then path asked now r, grants_now path asked now r)

-- a root of the first profile requires none
chain_read : {bs : List (Profile × Bytes)} {root : File Root} → IsRootChain bs root → IsFileOf root_form root
chain_read (first doc is meets) = doc
chain_read (then chain doc follows) = doc

none_required : (root : File Root) → IsFileOf root_form root → root.body.profile ≡ first_profile → root.body.required ≡ None
none_required root doc is = subst (λ (p : Profile). HasRequired doc.read.part p root.body.required) is doc.read.body.required

pub first_as_before : (S : State) → IsState S → IfSome S.trusted.root (λ root. root.body.profile ≡ first_profile)
    → (path : Bytes) (asked : Option Bytes) (now : ℕ) (r : Judged Bytes) → grants S path asked now r ↔ grants_before S path asked now r
first_as_before S valid is path asked now r = grants_as_before S none path asked now r
  where
    none : (root : File Root) → S.trusted.root ≡ Some root → root.body.required ≡ None
    none root e =
        let held = subst (λ (o : Option (File Root)). IfSome o (IsHeldUnder S.trusted)) e valid.trusted.held in
        none_required root (chain_read held.chain) (subst (λ (o : Option (File Root)). IfSome o (λ x. x.body.profile ≡ first_profile)) e is)
