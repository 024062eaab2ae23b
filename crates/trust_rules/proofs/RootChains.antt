-- Roots that follow one another.
use Rattle.std.proofs.Common.{◌≡◌, List, [], ◌∷◌, ◌++◌, map, length, Option, Some, None, Ok, refl, sym, ap, ◌∙◌, subst, arith, true, false}
use Rattle.std.specs.Prelude.{All, IsTrue, IfSome, IfNone, ◌↔◌}
use Rattle.std.proofs.lemmas.Bool.{true≢false}
use Rattle.std.proofs.lemmas.List.{append-nil}
use Rattle.std.proofs.Math.Seq.{append_snoc}
use Rattle.std.proofs.lemmas.List.Elements.{All-nil, All-cons, All-head, All-tail}
use Rattle.document_parts.specs.Documents.{Profile, Root}
use Rattle.metadata.specs.File.{Bytes, File, IsFileOf, root_form, timestamp_form, snapshot_form}
use Rattle.denials.specs.Orders.{Judged}
use Rattle.metadata.specs.Shaped.{reads}
use Rattle.trust_rules.specs.State.{FollowsRoot, MeetsTop, IsHeldUnder, IsRootChain, first, kept_root, then}
use Rattle.trust_rules.specs.Effects as changes
use Rattle.trust_rules.specs.Effects.{last_or}
use Rattle.trust_rules.specs.steps.Loading.{AreRead, FollowOn, IsChain, laid}
use Rattle.trust_rules.proofs.MoreRootsAndRows.{last_of}
use Rattle.trust_rules.proofs.ShapedOnce.{Shapes, shaped-definite, root-tells}

pub follow_fails : (old new : File Root) (more rest : List (File Root)) (W : Type 0) → rest ≡ new ∷ more → (FollowsRoot old new → ⊥)
    → (FollowOn old rest) ↔ W → (IsTrue false) ↔ W
follow_fails old new more rest W e fails same =
    ((λ t. absurd (true≢false (sym t))), (λ w. absurd (fails (subst (λ (l : List (File Root)). FollowOn old l) e (same.1 w)).0)))

pub follow_goes : (old new : File Root) (more rest : List (File Root)) (W : Type 0) → rest ≡ new ∷ more → FollowsRoot old new
    → (FollowOn old rest) ↔ W → (FollowOn new more) ↔ W
follow_goes old new more rest W e follows same = (
  (λ f. same.0 (subst (λ (l : List (File Root)). FollowOn old l) (sym e) (follows, f))),
  (λ w. (subst (λ (l : List (File Root)). FollowOn old l) e (same.1 w)).1),
)

pub follow_ends : (old : File Root) (rest : List (File Root)) (W : Type 0) → length rest ≡ 0 → (FollowOn old rest) ↔ W → (IsTrue true) ↔ W
follow_ends old [] W e same = ((λ t. same.0 tt), (λ w. refl))
follow_ends old (x ∷ xs) W e same = absurd (omega arith)

abbrev pub kept_of : List (File Root) → List (Profile × Bytes)
kept_of fs = map kept_root fs

-- a chain, and what follows on it
on_from : (bs : List (Profile × Bytes)) (old : File Root) (fs : List (File Root)) → IsRootChain bs old → FollowOn old fs → All (IsFileOf root_form) fs
    → IfSome (last_or (Some old) fs) (IsRootChain (bs ++ kept_of fs))
on_from bs old [] chain follows read = subst (λ (l : List (Profile × Bytes)). IsRootChain l old) (sym (append-nil bs)) chain
on_from bs old (f ∷ fs) chain follows read =
    subst (λ (l : List (Profile × Bytes)). IfSome (last_or (Some f) fs) (IsRootChain l)) (append_snoc bs (kept_root f) (kept_of fs))
    (on_from (bs ++ kept_root f ∷ []) f fs (then chain (All-head (IsFileOf root_form) f fs read) follows.0) follows.1 (All-tail (IsFileOf root_form) f fs read))

pub chained : (fs : List (File Root)) → All (IsFileOf root_form) fs → IsChain fs → IfSome (last_or None fs) (IsRootChain (kept_of fs))
chained [] read chain = tt
chained (f ∷ fs) read chain =
    on_from (kept_root f ∷ []) f fs (first (All-head (IsFileOf root_form) f fs read) refl chain.0) chain.1 (All-tail (IsFileOf root_form) f fs read)

all_front : {X : Type 0} (P : X → Type 0) (xs : List X) (x : X) → All P (xs ++ x ∷ []) → All P xs
all_front P [] x all = All-nil P
all_front P (y ∷ ys) x all = All-cons P y ys (All-head P y (ys ++ x ∷ []) all) (all_front P ys x (All-tail P y (ys ++ x ∷ []) all))

all_last : {X : Type 0} (P : X → Type 0) (xs : List X) (x : X) → All P (xs ++ x ∷ []) → P x
all_last P [] x all = All-head P x [] all
all_last P (y ∷ ys) x all = all_last P ys x (All-tail P y (ys ++ x ∷ []) all)

-- the last of some roots, apart from those before it
record Split (fs : List (File Root)) (bs : List (Profile × Bytes)) (b : Profile × Bytes) : Type 0 where
  front : List (File Root)
  last : File Root
  is : fs ≡ front ++ last ∷ []
  fronts : kept_of front ≡ bs
  lasts : kept_root last ≡ b

split_last : (fs : List (File Root)) (bs : List (Profile × Bytes)) (b : Profile × Bytes) → kept_of fs ≡ bs ++ b ∷ [] → Split fs bs b
split_last [] [] b e = absurd (let k : ◌≡◌ {A = List (Profile × Bytes)} [] (b ∷ []) = e in cc)
split_last [] (c ∷ bs) b e = absurd (let k : ◌≡◌ {A = List (Profile × Bytes)} [] (c ∷ (bs ++ b ∷ [])) = e in cc)
split_last (f ∷ []) [] b e = record { front = []; last = f; is = refl; fronts = refl; lasts = (let k : kept_root f ∷ [] ≡ b ∷ [] = e in cc) }
split_last (f ∷ g ∷ fs) [] b e = absurd (let k : kept_root f ∷ (kept_root g ∷ kept_of fs) ≡ b ∷ [] = e in cc)
split_last (f ∷ fs) (c ∷ bs) b e =
    let k : kept_root f ∷ kept_of fs ≡ c ∷ (bs ++ b ∷ []) = e in
    let h : kept_root f ≡ c = cc in
    let t : kept_of fs ≡ bs ++ b ∷ [] = cc in
    let s = split_last fs bs b t in
    record {
      front = f ∷ s.front;
      last = s.last;
      is = ap (λ (l : List (File Root)). f ∷ l) s.is;
      fronts = (let u = s.fronts in cc);
      lasts = s.lasts;
    }

follow_more : (o old new : File Root) (gs : List (File Root)) → last_or (Some o) gs ≡ Some old → FollowOn o gs → FollowsRoot old new → FollowOn o (gs ++ new ∷ [])
follow_more o old new [] e follows next = (subst (λ (r : File Root). FollowsRoot r new) (let k : Some old ≡ Some o = sym e in cc) next, tt)
follow_more o old new (g ∷ gs) e follows next = (follows.0, follow_more g old new gs e follows.1 next)

chain_more : (old new : File Root) (gs : List (File Root)) → last_or None gs ≡ Some old → IsChain gs → FollowsRoot old new → IsChain (gs ++ new ∷ [])
chain_more old new [] e chain next = absurd (let k : None ≡ Some old = e in cc)
chain_more old new (g ∷ gs) e chain next = (chain.0, follow_more g old new gs e chain.1 next)

module _ (law : Shapes) where
  pub once : (f g : File Root) → IsFileOf root_form f → IsFileOf root_form g → f.bytes ≡ g.bytes → f ≡ g
  once f g h k e =
      let same = shaped-definite law root_form root-tells g.bytes (Ok f) (Ok g) (reads h e) (reads k refl) in
      ok_same f g same
    where
      ok_same : (f g : File Root) → ◌≡◌ {A = Judged (File Root)} (Ok f) (Ok g) → f ≡ g
      ok_same f g e = cc

  pub back : {bs : List (Profile × Bytes)} {root : File Root} → IsRootChain bs root → (fs : List (File Root)) → kept_of fs ≡ bs → All (IsFileOf root_form) fs
      → IsChain fs × (last_or None fs ≡ Some root)
  back (first {b = b} {root = root} doc is meets) [] e read = absurd (let k : ◌≡◌ {A = List (Profile × Bytes)} [] ((root.body.profile, b) ∷ []) = e in cc)
  back (first {b = b} {root = root} doc is meets) (f ∷ []) e read =
      let h : kept_root f ≡ (root.body.profile, b) = (let k : kept_root f ∷ [] ≡ (root.body.profile, b) ∷ [] = e in cc) in
      let same : f ≡ root = once f root (All-head (IsFileOf root_form) f [] read) doc (ap (λ x. x.1) h ∙ sym is) in
      ((subst (λ (r : File Root). MeetsTop r r.body.root r) (sym same) meets, tt), ap Some same)
  back (first {b = b} {root = root} doc is meets) (f ∷ g ∷ fs) e read = absurd (let k : kept_root f ∷ (kept_root g ∷ kept_of fs) ≡ (root.body.profile, b) ∷ [] = e in cc)
  back (then {bs = bs} {old = old} {new = new} chain doc follows) fs e read =
      let s = split_last fs bs (kept_root new) e in
      let all : All (IsFileOf root_form) (s.front ++ s.last ∷ []) = subst (λ (l : List (File Root)). All (IsFileOf root_form) l) s.is read in
      let b = back chain s.front s.fronts (all_front (IsFileOf root_form) s.front s.last all) in
      let same : s.last ≡ new = once s.last new (all_last (IsFileOf root_form) s.front s.last all) doc (ap (λ x. x.1) s.lasts) in
      let more : IsChain (s.front ++ s.last ∷ []) =
      subst (λ (r : File Root). IsChain (s.front ++ r ∷ [])) (sym same) (chain_more old new s.front b.1 b.0 follows) in
      (subst IsChain (sym s.is) more, ap (last_or None) s.is ∙ (last_of None s.front s.last ∙ ap Some same))

  unchained : (fs : List (File Root)) → All (IsFileOf root_form) fs → IfSome (last_or None fs) (IsRootChain (kept_of fs)) → IsChain fs
  unchained [] read chain = tt
  unchained (f ∷ fs) read chain = of (last_or (Some f) fs) refl chain
    where
      of : (o : Option (File Root)) → last_or (Some f) fs ≡ o → IfSome o (IsRootChain (kept_of (f ∷ fs))) → IsChain (f ∷ fs)
      of None e c = absurd (some_last f fs e)
        where
          some_last : (f : File Root) (fs : List (File Root)) → last_or (Some f) fs ≡ None → ⊥
          some_last f [] e = let k : Some f ≡ None = e in cc
          some_last f (g ∷ gs) e = some_last g gs e
      of (Some r) e c = (back c (f ∷ fs) refl read).0

  pub chain_tells : (fs : List (File Root)) → All (IsFileOf root_form) fs → (IsChain fs) ↔ (IfSome (last_or None fs) (IsRootChain (kept_of fs)))
  chain_tells fs read = (chained fs read, unchained fs read)

  -- a list of roots is the chain of one root
  pub one_chain : (bs : List (Profile × Bytes)) (r q : File Root) → IsRootChain bs r → IsRootChain bs q → r ≡ q
  one_chain bs r q h k =
      let (fr, er, dr) = last_of_chain h in
      let (fq, eq, dq) = last_of_chain k in
      once r q dr dq (same_end fr fq (kept_root r) (kept_root q) (sym er ∙ eq))
    where
      last_of_chain : {bs : List (Profile × Bytes)} {root : File Root} → IsRootChain bs root → (front : List (Profile × Bytes)) × (bs ≡ front ++ kept_root root ∷ []) × IsFileOf root_form root
      last_of_chain (first {b = b} {root = root} doc is meets) = ([], ap (λ (x : Bytes). (root.body.profile, x) ∷ []) (sym is), doc)
      last_of_chain (then {bs = bs} {old = old} {new = new} chain doc follows) = (bs, refl, doc)

      end : List (Profile × Bytes) → Bytes
      end [] = []
      end (x ∷ []) = x.1
      end (x ∷ y ∷ ys) = end (y ∷ ys)

      end_of : (xs : List (Profile × Bytes)) (x : Profile × Bytes) → end (xs ++ x ∷ []) ≡ x.1
      end_of [] x = refl
      end_of (y ∷ []) x = refl
      end_of (y ∷ z ∷ ys) x = end_of (z ∷ ys) x

      same_end : (xs ys : List (Profile × Bytes)) (x y : Profile × Bytes) → xs ++ x ∷ [] ≡ ys ++ y ∷ [] → x.1 ≡ y.1
      same_end xs ys x y e = sym (end_of xs x) ∙ (ap end e ∙ end_of ys y)

pub if_both : {A : Type 0} (P Q : A → Type 0) (o : Option A) → IfSome o P → IfSome o Q → IfSome o (λ x. P x × Q x)
if_both P Q None h k = tt
if_both P Q (Some x) h k = (h, k)

pub if_second : {A : Type 0} (P Q : A → Type 0) (o : Option A) → IfSome o (λ x. P x × Q x) → IfSome o Q
if_second P Q None h = tt
if_second P Q (Some x) h = h.1

pub some_if : {A : Type 0} (P : A → Type 0) (o : Option A) (x : A) → Some x ≡ o → IfSome o P → P x
some_if {A} P o x e h = subst (λ (p : Option A). IfSome p P) (sym e) h

pub if_some : {A : Type 0} (P : A → Type 0) (o : Option A) (x : A) → Some x ≡ o → P x → IfSome o P
if_some {A} P o x e h = subst (λ (p : Option A). IfSome p P) e h

pub if_none : {A : Type 0} (P : Type 0) (o : Option A) (x : A) → Some x ≡ o → IfNone o P
if_none {A} P o x e = subst (λ (p : Option A). IfNone p P) e tt

-- what is held under a root
pub holds_under : (E : changes.Effects) (root : File Root) → AreRead E → last_or None E.roots ≡ Some root
    → IfSome (last_or None E.roots) (IsRootChain (kept_of E.roots)) → IfSome E.timestamp (MeetsTop root root.body.timestamp)
    → IfSome E.snapshot (MeetsTop root root.body.snapshot) → IsHeldUnder (laid E).trusted root
holds_under E root read e chain stamp snap = record {
  chain = some_if (IsRootChain (kept_of E.roots)) (last_or None E.roots) root (sym e) chain;
  timestamp = if_both (IsFileOf timestamp_form) (MeetsTop root root.body.timestamp) E.timestamp read.timestamp stamp;
  snapshot = if_both (IsFileOf snapshot_form) (MeetsTop root root.body.snapshot) E.snapshot read.snapshot snap;
}

pub chain_under : (E : changes.Effects) (root : File Root) → last_or None E.roots ≡ Some root → IsHeldUnder (laid E).trusted root
    → IfSome (last_or None E.roots) (IsRootChain (kept_of E.roots))
chain_under E root e held = if_some (IsRootChain (kept_of E.roots)) (last_or None E.roots) root (sym e) held.chain

pub timestamp_under : (E : changes.Effects) (root : File Root) → IsHeldUnder (laid E).trusted root → IfSome E.timestamp (MeetsTop root root.body.timestamp)
timestamp_under E root held = if_second (IsFileOf timestamp_form) (MeetsTop root root.body.timestamp) E.timestamp held.timestamp

pub snapshot_under : (E : changes.Effects) (root : File Root) → IsHeldUnder (laid E).trusted root → IfSome E.snapshot (MeetsTop root root.body.snapshot)
snapshot_under E root held = if_second (IsFileOf snapshot_form) (MeetsTop root root.body.snapshot) E.snapshot held.snapshot
