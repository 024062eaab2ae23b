-- What the parts of a mirror's URL say, and that they say no more.
use Rattle.std.proofs.Common.{◌≡◌, ◌≢◌, ℕ, ◌<◌, ◌≤◌, ◌+◌, ◌⊎◌, List, [], ◌∷◌, ◌++◌, length, drop, get_or, Some, None, Option, refl, sym, ◌∙◌, ap, subst, arith, inl, inr, append-nil, length-append, codes}
use Rattle.std.specs.Fmt.{decimal}
use Rattle.std.specs.Option.{IfNone}
use Rattle.std.specs.Str.Pattern.{FindsTextPrefix}
use Rattle.path_patterns.specs.Grammar.{IsTargetPath}
use Rattle.mirrors.specs.Address.{Authority, alone, numbered, FolderPath, top, below, IsHost, IsMirror}
use Rattle.mirrors.specs.steps.Cut.{BeginsWithSlash, IsCut}
use Rattle.mirrors.proofs.Cutting.{Lacks, one_front, one_cut, not_around, lacks_each, host_lacks_colon, authority_lacks_slash, rest_of}

pub if_none : {A : Type 0} (o : Option A) (P : Type 0) → P → IfNone o P
if_none (Some x) P p = tt
if_none None P p = p

pub no_bytes : (text : List ℕ) → length text ≡ 0 → text ≡ []
no_bytes [] e = refl
no_bytes (b ∷ bs) e = absurd (omega (arith, e))

-- ---- an authority

pub authority_is : (host : List ℕ) (port : ℕ) (text : List ℕ) → Authority host port text
    → (text ≡ host) ⊎ ((0 < port) × (port ≤ 65535) × (text ≡ host ++ (58 ∷ decimal port)))
authority_is host _ _ alone = inl refl
authority_is host port _ (numbered some few) = inr (some, few, refl)

-- no colon, and no host
pub no_host : (text : List ℕ) → ((i : ℕ) → i < length text → get_or text i 0 ≢ 58) → (IsHost text → ⊥)
    → (host : List ℕ) (port : ℕ) → IsHost host → Authority host port text → ⊥
no_host text h fails host port is says = by (authority_is host port text says)
  where
    by : (text ≡ host) ⊎ ((0 < port) × (port ≤ 65535) × (text ≡ host ++ (58 ∷ decimal port))) → ⊥
    by (inl e) = fails (subst IsHost (sym e) is)
    by (inr p) = not_around 58 text host (decimal port) (lacks_each 58 text h) p.2

-- a colon, and what stands around it
around : (text front back host : List ℕ) (port : ℕ) → text ≡ front ++ (58 ∷ back) → Lacks 58 front → IsHost host → Authority host port text
    → (0 < port) × (port ≤ 65535) × (front ≡ host) × (back ≡ decimal port)
around text front back host port split lacks is says = by (authority_is host port text says)
  where
    by : (text ≡ host) ⊎ ((0 < port) × (port ≤ 65535) × (text ≡ host ++ (58 ∷ decimal port))) → (0 < port) × (port ≤ 65535) × (front ≡ host) × (back ≡ decimal port)
    by (inl e) = absurd (not_around 58 host front back (host_lacks_colon host is) (sym e ∙ split))
    by (inr p) =
        let same = one_front 58 front host (58 ∷ back) (58 ∷ decimal port) lacks (host_lacks_colon host is) (inr (back, refl)) (inr (decimal port, refl)) (sym split ∙ p.2) in
        (p.0, p.1, same.0, rest_of 58 58 back (decimal port) same.1)

pub other_host : (text front back : List ℕ) → text ≡ front ++ (58 ∷ back) → ((i : ℕ) → i < length front → get_or front i 0 ≢ 58) → (IsHost front → ⊥)
    → (host : List ℕ) (port : ℕ) → IsHost host → Authority host port text → ⊥
other_host text front back split lacks fails host port is says =
    fails (subst IsHost (sym (around text front back host port split (lacks_each 58 front lacks) is says).2) is)

pub other_port : (text front back : List ℕ) → text ≡ front ++ (58 ∷ back) → ((i : ℕ) → i < length front → get_or front i 0 ≢ 58)
    → ((p : ℕ) → 0 < p → p ≤ 65535 → back ≢ decimal p) → (host : List ℕ) (port : ℕ) → IsHost host → Authority host port text → ⊥
other_port text front back split lacks fails host port is says =
    let found = around text front back host port split (lacks_each 58 front lacks) is says in
    fails port found.0 found.1 found.3

pub numbered_by : (text front back : List ℕ) (port : ℕ) → text ≡ front ++ (58 ∷ back) → 0 < port → port ≤ 65535 → back ≡ decimal port → Authority front port text
numbered_by text front back port split some few e =
    subst (λ (t : List ℕ). Authority front port t) (sym (split ∙ ap (λ (l : List ℕ). front ++ (58 ∷ l)) e)) (numbered some few)

-- ---- a path

pub at_top : (path : List ℕ) → path ≡ [] → FolderPath path path
at_top path e = subst (λ (p : List ℕ). FolderPath p p) (sym e) (top (inl refl))

pub at_slash : (path inner : List ℕ) → path ≡ 47 ∷ inner → inner ≡ [] → FolderPath inner path
at_slash path inner split e =
    subst (λ (p : List ℕ). FolderPath inner p) (sym split)
    (subst (λ (i : List ℕ). FolderPath i (47 ∷ i)) (sym e) (top (inr refl)))

pub at_folder : (path inner : List ℕ) → path ≡ 47 ∷ inner → IsTargetPath inner → FolderPath inner path
at_folder path inner split is =
    subst (λ (p : List ℕ). FolderPath inner p) (sym (split ∙ ap (λ (l : List ℕ). 47 ∷ l) (sym (append-nil inner)))) (below is (inl refl))

pub at_folder_with_slash : (path inner folder : List ℕ) → path ≡ 47 ∷ inner → inner ≡ folder ++ (47 ∷ []) → IsTargetPath folder → FolderPath folder path
at_folder_with_slash path inner folder split e is =
    subst (λ (p : List ℕ). FolderPath folder p) (sym (split ∙ ap (λ (l : List ℕ). 47 ∷ l) e)) (below is (inr refl))

-- what stands after the slash of a path
abbrev IsInner : List ℕ → Type 0
IsInner inner = (inner ≡ []) ⊎ (IsTargetPath inner) ⊎ ((p : List ℕ) × IsTargetPath p × (inner ≡ p ++ (47 ∷ [])))

folder_is : (prefix path : List ℕ) → FolderPath prefix path → (path ≡ []) ⊎ ((inner : List ℕ) × (path ≡ 47 ∷ inner) × IsInner inner)
folder_is _ path (top (inl e)) = inl e
folder_is _ path (top (inr e)) = inr ([], e, inl refl)
folder_is prefix _ (below {ending = ending} is (inl e)) =
    inr (prefix ++ ending, refl, inr (inl (subst IsTargetPath (sym (ap (λ (l : List ℕ). prefix ++ l) e ∙ append-nil prefix)) is)))
folder_is prefix _ (below {ending = ending} is (inr e)) = inr (prefix ++ ending, refl, inr (inr (prefix, is, ap (λ (l : List ℕ). prefix ++ l) e)))

pub folder_begins : (prefix path : List ℕ) → FolderPath prefix path → BeginsWithSlash path
folder_begins prefix path says = by (folder_is prefix path says)
  where
    by : (path ≡ []) ⊎ ((inner : List ℕ) × (path ≡ 47 ∷ inner) × IsInner inner) → BeginsWithSlash path
    by (inl e) = inl e
    by (inr p) = inr (p.0, p.1)

pub no_slash : (path : List ℕ) → ((rest : List ℕ) → path ≢ 47 ∷ rest) → (path ≡ [] → ⊥) → (prefix : List ℕ) → FolderPath prefix path → ⊥
no_slash path none some prefix says = by (folder_is prefix path says)
  where
    by : (path ≡ []) ⊎ ((inner : List ℕ) × (path ≡ 47 ∷ inner) × IsInner inner) → ⊥
    by (inl e) = some e
    by (inr p) = none p.0 p.1

pub no_folder : (path inner : List ℕ) → path ≡ 47 ∷ inner → (inner ≡ [] → ⊥) → (IsTargetPath inner → ⊥)
    → ((p : List ℕ) → IsTargetPath p → inner ≢ p ++ (47 ∷ [])) → (prefix : List ℕ) → FolderPath prefix path → ⊥
no_folder path inner split some fails none prefix says = by (folder_is prefix path says)
  where
    inside : (other : List ℕ) → inner ≡ other → IsInner other → ⊥
    inside other same (inl e) = some (same ∙ e)
    inside other same (inr (inl is)) = fails (subst IsTargetPath (sym same) is)
    inside other same (inr (inr p)) = none p.0 p.1 (same ∙ p.2)

    by : (path ≡ []) ⊎ ((other : List ℕ) × (path ≡ 47 ∷ other) × IsInner other) → ⊥
    by (inl e) =
        let k : ◌≡◌ {A = List ℕ} [] (47 ∷ inner) = sym e ∙ split in
        absurd (cc)
    by (inr p) = inside p.0 (rest_of 47 47 inner p.0 (sym split ∙ p.1)) p.2

pub same_before : (x y : List ℕ) (c : ℕ) → x ++ (c ∷ []) ≡ y ++ (c ∷ []) → x ≡ y
same_before [] [] c e = refl
same_before [] (b ∷ y) c e = absurd (omega (arith, ap length e, length-append y (c ∷ [])))
same_before (a ∷ x) [] c e = absurd (omega (arith, ap length e, length-append x (c ∷ [])))
same_before (a ∷ x) (b ∷ y) c e =
    let tail = same_before x y c (rest_of a b (x ++ (c ∷ [])) (y ++ (c ∷ [])) e) in
    let whole = e in
    cc

pub other_folder : (inner folder : List ℕ) → inner ≡ folder ++ (47 ∷ []) → (IsTargetPath folder → ⊥) → (p : List ℕ) → IsTargetPath p → inner ≢ p ++ (47 ∷ [])
other_folder inner folder e fails p is f = fails (subst IsTargetPath (same_before p folder 47 (sym f ∙ e)) is)

-- ---- the whole

pub behind_text : (front text rest : List ℕ) → (k : ℕ) × FindsTextPrefix front text (Some k) × (rest ≡ drop k text) × (length rest + k ≡ length text) → text ≡ front ++ rest
behind_text front text rest h = h.1.1 ∙ ap (λ (l : List ℕ). front ++ l) (sym h.2)

same_behind : (x y z : List ℕ) → x ++ y ≡ x ++ z → y ≡ z
same_behind [] y z e = e
same_behind (b ∷ x) y z e = same_behind x y z (rest_of b b (x ++ y) (x ++ z) e)

pub parts_of : (text rest front back host : List ℕ) (port : ℕ) (authority prefix : List ℕ) → text ≡ codes "http://" ++ rest → IsCut rest front back
    → IsMirror text host port authority prefix → Authority host port front × FolderPath prefix back
parts_of text rest front back host port authority prefix split is m =
    let whole = same_behind (codes "http://") rest (authority ++ m.path) (sym split ∙ m.spelt) in
    let cut : IsCut rest authority m.path = record {
      whole = whole;
      is_front = authority_lacks_slash host port authority m.is_host m.is_authority;
      is_back = folder_begins prefix m.path m.is_path;
    } in
    let same = one_cut rest front back authority m.path is cut in
    (subst (λ (t : List ℕ). Authority host port t) (sym same.0) m.is_authority, subst (λ (t : List ℕ). FolderPath prefix t) (sym same.1) m.is_path)
