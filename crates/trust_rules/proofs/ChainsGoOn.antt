-- With which root a chain goes on, and under which name a state has it.
use Rattle.std.proofs.Common.{◌≡◌, ℕ, suc, ◌+◌, ◌-◌, ◌<◌, ◌≤◌, false, List, [], ◌∷◌, ◌++◌, length, Option, Some, None, option_map, refl, sym, ap, ◌∙◌, subst, arith, length-append, nat_eq}
use Rattle.path_patterns.specs.Names.{dotted}
use Rattle.std.specs.Prelude.{All, IfSome, IfNone, codes}
use Rattle.std.proofs.lemmas.Bool.{eq-eqb, ne_eqb}
use Rattle.std.proofs.lemmas.List.Elements.{All-nil, All-cons, All-head, All-tail}
use Rattle.std.proofs.Math.Seq.{append_snoc}
use Rattle.document_parts.specs.Documents.{Profile, Root}
use Rattle.metadata.specs.File.{Bytes, File, IsFileOf, root_form}
use Rattle.document_parts.specs.Parts.{last_number}
use Rattle.delegations.specs.Rows.{value_at}
use Rattle.trust_rules.specs.Contents.{profile_number, root_rows}
use Rattle.trust_rules.specs.State.{FollowsRoot, IsHeldUnder, IsRootChain, IsTrusted, Trusted, first, kept_root, metadata_of, nothing_trusted, root_version, then}
use Rattle.trust_rules.specs.Effects.{last_or}
use Rattle.trust_rules.specs.steps.Loading.{FollowOn, IsChain}
use Rattle.trust_rules.proofs.FileNames.{root_found, root_small}
use Rattle.trust_rules.proofs.RootChains.{back, kept_of, one_chain}
use Rattle.trust_rules.proofs.ShapedOnce.{Shapes}

all_snoc : (fs : List (File Root)) (f : File Root) → All (IsFileOf root_form) fs → IsFileOf root_form f → All (IsFileOf root_form) (fs ++ f ∷ [])
all_snoc [] f all h = All-cons (IsFileOf root_form) f [] h (All-nil (IsFileOf root_form))
all_snoc (g ∷ fs) f all h = All-cons (IsFileOf root_form) g (fs ++ f ∷ []) (All-head (IsFileOf root_form) g fs all) (all_snoc fs f (All-tail (IsFileOf root_form) g fs all) h)

kept_snoc : (fs : List (File Root)) (f : File Root) → kept_of (fs ++ f ∷ []) ≡ kept_of fs ++ kept_root f ∷ []
kept_snoc [] f = refl
kept_snoc (g ∷ fs) f = ap (λ (bs : List (Profile × Bytes)). kept_root g ∷ bs) (kept_snoc fs f)

-- the documents of a chain
files_of : {bs : List (Profile × Bytes)} {root : File Root} → IsRootChain bs root → (fs : List (File Root)) × (kept_of fs ≡ bs) × All (IsFileOf root_form) fs
files_of (first {b = b} {root = root} doc is meets) = (root ∷ [], ap (λ (x : Bytes). (root.body.profile, x) ∷ []) is, All-cons (IsFileOf root_form) root [] doc (All-nil (IsFileOf root_form)))
files_of (then {bs = bs} {old = old} {new = new} chain doc follows) =
    let more = files_of chain in
    (more.0 ++ new ∷ [], kept_snoc more.0 new ∙ ap (λ (xs : List (Profile × Bytes)). xs ++ kept_root new ∷ []) more.1, all_snoc more.0 new more.2 doc)

record Cut (fs : List (File Root)) (roots : List (Profile × Bytes)) (b : Profile × Bytes) : Type 0 where
  front : List (File Root)
  at : File Root
  rest : List (File Root)
  is : fs ≡ front ++ at ∷ rest
  fronts : kept_of front ≡ roots
  here : kept_root at ≡ b

cut : (fs : List (File Root)) (roots more : List (Profile × Bytes)) (b : Profile × Bytes) → kept_of fs ≡ roots ++ b ∷ more → Cut fs roots b
cut [] [] more b e = let k : ◌≡◌ {A = List (Profile × Bytes)} [] (b ∷ more) = e in absurd cc
cut [] (c ∷ roots) more b e = let k : ◌≡◌ {A = List (Profile × Bytes)} [] (c ∷ (roots ++ b ∷ more)) = e in absurd cc
cut (f ∷ fs) [] more b e = record { front = []; at = f; rest = fs; is = refl; fronts = refl; here = (let k : kept_root f ∷ kept_of fs ≡ b ∷ more = e in cc) }
cut (f ∷ fs) (c ∷ roots) more b e =
    let k : kept_root f ∷ kept_of fs ≡ c ∷ (roots ++ b ∷ more) = e in
    let h : kept_root f ≡ c = cc in
    let t : kept_of fs ≡ roots ++ b ∷ more = cc in
    let s = cut fs roots more b t in
    record {
      front = f ∷ s.front;
      at = s.at;
      rest = s.rest;
      is = ap (λ (l : List (File Root)). f ∷ l) s.is;
      fronts = (let u = s.fronts in cc);
      here = s.here;
    }

all_front : (gs : List (File Root)) (n : File Root) (hs : List (File Root)) → All (IsFileOf root_form) (gs ++ n ∷ hs) → All (IsFileOf root_form) gs × IsFileOf root_form n
all_front [] n hs all = (All-nil (IsFileOf root_form), All-head (IsFileOf root_form) n hs all)
all_front (g ∷ gs) n hs all =
    let more = all_front gs n hs (All-tail (IsFileOf root_form) g (gs ++ n ∷ hs) all) in
    (All-cons (IsFileOf root_form) g gs (All-head (IsFileOf root_form) g (gs ++ n ∷ hs) all) more.0, more.1)

follows_at : (o old n : File Root) (gs hs : List (File Root)) → last_or (Some o) gs ≡ Some old → FollowOn o (gs ++ n ∷ hs) → FollowsRoot old n
follows_at o old n [] hs e f = subst (λ (r : File Root). FollowsRoot r n) (let k : Some o ≡ Some old = e in cc) f.0
follows_at o old n (g ∷ gs) hs e f = follows_at g old n gs hs e f.1

chain_at : (old n : File Root) (gs hs : List (File Root)) → last_or None gs ≡ Some old → IsChain (gs ++ n ∷ hs) → FollowsRoot old n
chain_at old n [] hs e c = let k : None ≡ Some old = e in absurd cc
chain_at old n (g ∷ gs) hs e c = follows_at g old n gs hs e c.1

abbrev pub GoesOn : List (Profile × Bytes) → Profile × Bytes → File Root → Type 0
GoesOn roots b old = (new : File Root) × (kept_root new ≡ b) × IsFileOf root_form new × FollowsRoot old new × IsRootChain (roots ++ b ∷ []) new

module _ (law : Shapes) where
  pub next : (roots more : List (Profile × Bytes)) (b : Profile × Bytes) (old last : File Root) → IsRootChain roots old → IsRootChain (roots ++ b ∷ more) last → GoesOn roots b old
  next roots more b old last chain longer =
      let all = files_of longer in
      let s = cut all.0 roots more b all.1 in
      let read : All (IsFileOf root_form) (s.front ++ s.at ∷ s.rest) = subst (λ (l : List (File Root)). All (IsFileOf root_form) l) s.is all.2 in
      let whole = back law longer (s.front ++ s.at ∷ s.rest) (ap kept_of (sym s.is) ∙ all.1) read in
      let parts = all_front s.front s.at s.rest read in
      let own = back law chain s.front s.fronts parts.0 in
      let follows = chain_at old s.at s.front s.rest own.1 whole.0 in
      (s.at, s.here, parts.1, follows, subst (λ (x : Profile × Bytes). IsRootChain (roots ++ x ∷ []) s.at) s.here (then chain parts.1 follows))

  -- versions rise by one
  pub versions : (roots more : List (Profile × Bytes)) (b : Profile × Bytes) (old last : File Root) → IsRootChain roots old → IsRootChain (roots ++ b ∷ more) last
      → last.body.version ≡ old.body.version + suc (length more)
  versions roots [] b old last chain longer =
      let n = next roots [] b old last chain longer in
      let same : n.0 ≡ last = one_chain law (roots ++ b ∷ []) n.0 last n.4 longer in
      let v = n.3.next in
      let w : n.0.body.version ≡ last.body.version = ap (λ (r : File Root). r.body.version) same in
      omega (arith, v, w)
  versions roots (c ∷ more) b old last chain longer =
      let n = next roots (c ∷ more) b old last chain longer in
      let rest = versions (roots ++ b ∷ []) more c n.0 last n.4 (subst (λ (l : List (Profile × Bytes)). IsRootChain l last) (sym (append_snoc roots b (c ∷ more))) longer) in
      let v = n.3.next in
      omega (arith, v, rest)

-- a chain is no longer than its last version
many : {bs : List (Profile × Bytes)} {root : File Root} → IsRootChain bs root → length bs ≤ root.body.version
many (first {root = root} doc is meets) = doc.read.body.head.1.2.1
many (then {bs = bs} {old = old} {new = new} chain doc follows) =
    let less = many chain in
    let v = follows.next in
    let l = length-append bs (kept_root new ∷ []) in
    omega (arith, less, v, l)

module _ (T : Trusted) (root : File Root) (known : T.root ≡ Some root) (enough : length T.roots ≤ root.body.version) where
  number : (k : ℕ) → root_version T k ≡ root.body.version + k + 1 - length T.roots
  number k = rw known refl

  -- root number k is found by its version
  found_at : (k : ℕ) (roots more : List (Profile × Bytes)) (b : Profile × Bytes) → k + length roots + suc (length more) ≤ length T.roots
      → value_at nat_eq (root_rows T k (roots ++ b ∷ more)) (root_version T (k + length roots)) ≡ Some (profile_number b.0, b.1)
  found_at k [] more b few = rw (eq-eqb (root_version T k) (root_version T (k + 0)) (ap (root_version T) (let e : k ≡ k + 0 = omega arith in e))) refl
  found_at k (c ∷ roots) more b few =
      let n = number k in
      let m = number (k + suc (length roots)) in
      let other : nat_eq (root_version T k) (root_version T (k + suc (length roots))) ≡ false = ne_eqb (root_version T k) (root_version T (k + suc (length roots))) (λ e. omega (arith, n, m, e, enough, few)) in
      let again : k + suc (length roots) ≡ suc k + length roots = omega arith in
      rw other (subst (λ (i : ℕ). value_at nat_eq (root_rows T (suc k) (roots ++ b ∷ more)) (root_version T i) ≡ Some (profile_number b.0, b.1)) (sym again) (found_at (suc k) roots more b (omega (arith, few))))

  none_at : (k : ℕ) (bs : List (Profile × Bytes)) → k + length bs ≤ length T.roots → value_at nat_eq (root_rows T k bs) (root.body.version + 1) ≡ None
  none_at k [] few = refl
  none_at k (c ∷ bs) few =
      let n = number k in
      let other : nat_eq (root_version T k) (root.body.version + 1) ≡ false = ne_eqb (root_version T k) (root.body.version + 1) (λ e. omega (arith, n, e, enough, few)) in
      rw other (none_at (suc k) bs (omega (arith, few)))

trusts_one : (T : Trusted) → IsTrusted T → (T.roots ≡ [] → ⊥) → (root : File Root) × (T.root ≡ Some root) × IsRootChain T.roots root
trusts_one T valid some = by T.root refl
  where
    by : (o : Option (File Root)) → T.root ≡ o → (root : File Root) × (T.root ≡ Some root) × IsRootChain T.roots root
    by None e = absurd (some (ap (λ (U : Trusted). U.roots) (subst (λ (o : Option (File Root)). IfNone o (T ≡ nothing_trusted)) e valid.none)))
    by (Some root) e = (root, e, (subst (λ (o : Option (File Root)). IfSome o (IsHeldUnder T)) e valid.held).chain)

module _ (law : Shapes) where
  pub named : (T : Trusted) (roots more : List (Profile × Bytes)) (b : Profile × Bytes) (old : File Root) → IsTrusted T → IsRootChain roots old → T.roots ≡ roots ++ b ∷ more
      → metadata_of T (dotted (old.body.version + 1) (codes "root")) ≡ Some b.1
  named T roots more b old valid chain e =
      let one = trusts_one T valid (λ n. no_list roots more b (sym e ∙ n)) in
      let root = one.0 in
      let longer : IsRootChain (roots ++ b ∷ more) root = subst (λ (l : List (Profile × Bytes)). IsRootChain l root) e one.2 in
      let v = versions law roots more b old root chain longer in
      let enough = many one.2 in
      let size : length T.roots ≡ length roots + suc (length more) = ap length e ∙ length-append roots (b ∷ more) in
      let small = root_small one.2 in
      let n = number T root one.1 enough (length roots) in
      let same : root_version T (0 + length roots) ≡ old.body.version + 1 = omega (arith, n, v, size, enough) in
      root_found T valid (old.body.version + 1) (omega (arith, v, small))
      ∙ ap (option_map (λ (r : ℕ × Bytes). r.1))
      (subst (λ (i : ℕ). value_at nat_eq (root_rows T 0 T.roots) i ≡ Some (profile_number b.0, b.1)) same
      (subst (λ (l : List (Profile × Bytes)). value_at nat_eq (root_rows T 0 l) (root_version T (0 + length roots)) ≡ Some (profile_number b.0, b.1)) (sym e)
      (found_at T root one.1 enough 0 roots more b (omega (arith, size)))))
    where
      no_list : (roots more : List (Profile × Bytes)) (b : Profile × Bytes) → roots ++ b ∷ more ≡ [] → ⊥
      no_list [] more b k = let h : ◌≡◌ {A = List (Profile × Bytes)} (b ∷ more) [] = k in cc
      no_list (c ∷ roots) more b k = let h : ◌≡◌ {A = List (Profile × Bytes)} (c ∷ (roots ++ b ∷ more)) [] = k in cc

  pub newest : (T : Trusted) (root : File Root) → IsTrusted T → T.root ≡ Some root → root.body.version < last_number → metadata_of T (dotted (root.body.version + 1) (codes "root")) ≡ None
  newest T root valid known below =
      let chain : IsRootChain T.roots root = (subst (λ (o : Option (File Root)). IfSome o (IsHeldUnder T)) known valid.held).chain in
      root_found T valid (root.body.version + 1) (omega (arith, below))
      ∙ ap (option_map (λ (r : ℕ × Bytes). r.1)) (none_at T root known (many chain) 0 T.roots (omega arith))
