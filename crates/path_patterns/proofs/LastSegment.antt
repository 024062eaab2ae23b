-- A text is cut before its last segment in one way.
use Rattle.std.proofs.Common.{◌≡◌, ◌≢◌, ℕ, suc, ◌+◌, ◌<◌, List, [], ◌∷◌, ◌++◌, length, take, drop, get_or, refl, sym, ◌∙◌, ap, subst, arith, inl, inr, true, append_assoc}
use Rattle.std.proofs.lemmas.List.{take_more, take-append-drop, get_or-drop, length-drop}
use Rattle.std.proofs.lemmas.Bool.{and_parts, true≢false}
use Rattle.std.specs.List.{AllByRecursion, join_with_byte, list_all}
use Rattle.path_patterns.specs.Bytes.{is_segment_byte}
use Rattle.path_patterns.specs.Grammar.{IsSegment, IsTargetPath}
use Rattle.path_patterns.specs.Names.{IsFolder, IsCutAtLast}

-- no byte is a slash
abbrev pub NoSlash : List ℕ → Type 0
NoSlash text = AllByRecursion (λ b. b ≢ 47) text

no_slash_inside : (x l : List ℕ) → NoSlash (x ++ 47 ∷ l) → ⊥
no_slash_inside [] l all = all.0 refl
no_slash_inside (b ∷ x) l all = no_slash_inside x l all.1

pub no_slash_joined : (x y : List ℕ) → NoSlash x → NoSlash y → NoSlash (x ++ y)
no_slash_joined [] y a b = b
no_slash_joined (c ∷ x) y a b = (a.0, no_slash_joined x y a.1 b)

pub no_slash_behind : (x y : List ℕ) → NoSlash (x ++ y) → NoSlash y
no_slash_behind [] y all = all
no_slash_behind (c ∷ x) y all = no_slash_behind x y all.1

first_of : (a b : ℕ) (x y : List ℕ) → ◌≡◌ {A = List ℕ} (a ∷ x) (b ∷ y) → a ≡ b
first_of a b x y e = cc

rest_of : (a b : ℕ) (x y : List ℕ) → ◌≡◌ {A = List ℕ} (a ∷ x) (b ∷ y) → x ≡ y
rest_of a b x y e = cc

-- texts around their last slash
one_last : (x y l m : List ℕ) → NoSlash l → NoSlash m → x ++ 47 ∷ l ≡ y ++ 47 ∷ m → (x ≡ y) × (l ≡ m)
one_last [] [] l m a b e = (refl, rest_of 47 47 l m e)
one_last [] (c ∷ y) l m a b e = absurd (no_slash_inside y m (subst NoSlash (rest_of 47 c l (y ++ 47 ∷ m) e) a))
one_last (c ∷ x) [] l m a b e = absurd (no_slash_inside x l (subst NoSlash (sym (rest_of c 47 (x ++ 47 ∷ l) m e)) b))
one_last (c ∷ x) (d ∷ y) l m a b e =
    let same = one_last x y l m a b (rest_of c d (x ++ 47 ∷ l) (y ++ 47 ∷ m) e) in
    let head = first_of c d (x ++ 47 ∷ l) (y ++ 47 ∷ m) e in
    let tail = same.0 in
    (cc, same.1)

around : (front l : List ℕ) → (front ++ 47 ∷ []) ++ l ≡ front ++ 47 ∷ l
around front l = append_assoc front (47 ∷ []) l

pub one_cut : (text f l g m : List ℕ) → IsCutAtLast text f l → IsCutAtLast text g m → (f ≡ g) × (l ≡ m)
one_cut text f l g m a b = by a.is_folder b.is_folder
  where
    whole : f ++ l ≡ g ++ m
    whole = sym a.whole ∙ b.whole

    inside : (front k n : List ℕ) → (folder : List ℕ) → folder ≡ front ++ 47 ∷ [] → folder ++ k ≡ front ++ 47 ∷ k
    inside front k n folder e = ap (λ (x : List ℕ). x ++ k) e ∙ around front k

    by : IsFolder f → IsFolder g → (f ≡ g) × (l ≡ m)
    by (inl p) (inl q) = (p ∙ sym q, ap (λ (x : List ℕ). x ++ l) (sym p) ∙ whole ∙ ap (λ (x : List ℕ). x ++ m) q)
    by (inl p) (inr q) =
        absurd (no_slash_inside q.0 m (subst NoSlash (ap (λ (x : List ℕ). x ++ l) (sym p) ∙ whole ∙ inside q.0 m m g q.1) a.is_last))
    by (inr p) (inl q) =
        absurd (no_slash_inside p.0 l (subst NoSlash (ap (λ (x : List ℕ). x ++ m) (sym q) ∙ sym whole ∙ inside p.0 l l f p.1) b.is_last))
    by (inr p) (inr q) =
        let same = one_last p.0 q.0 l m a.is_last b.is_last (sym (inside p.0 l l f p.1) ∙ whole ∙ inside q.0 m m g q.1) in
        (p.1 ∙ ap (λ (x : List ℕ). x ++ 47 ∷ []) same.0 ∙ sym q.1, same.1)

-- where no byte is a slash, by index
none_at : (text : List ℕ) → ((i : ℕ) → i < length text → get_or text i 0 ≢ 47) → NoSlash text
none_at [] h = tt
none_at (b ∷ bs) h = (h 0 (omega arith), none_at bs (λ i l. h (suc i) (omega (arith, l))))

pub cut_nowhere : (text : List ℕ) → ((i : ℕ) → i < length text → get_or text i 0 ≢ 47) → IsCutAtLast text [] text
cut_nowhere text h = record { is_folder = inl refl; is_last = none_at text h; whole = refl }

pub cut_behind : (text : List ℕ) (k : ℕ) → k < length text → get_or text k 0 ≡ 47
    → ((i : ℕ) → k < i → i < length text → get_or text i 0 ≢ 47) → IsCutAtLast text (take (k + 1) text) (drop (k + 1) text)
cut_behind text k l e h = record {
  is_folder = inr (take k text, take_more text k 0 l ∙ ap (λ (b : ℕ). take k text ++ b ∷ []) e);
  is_last = none_at (drop (k + 1) text) (λ i m.
      let len = length-drop (k + 1) text in
      let at = get_or-drop (k + 1) text i 0 in
      λ f. h (k + 1 + i) (omega arith) (omega (arith, m, len, l)) (sym at ∙ f));
  whole = sym (take-append-drop (k + 1) text);
}

-- the last segment of a target path has a byte
no_slash_byte : (b : ℕ) → is_segment_byte b ≡ true → b ≢ 47
no_slash_byte b h e = true≢false (sym (subst (λ (k : ℕ). is_segment_byte k ≡ true) e h))

no_slash_segment : (s : List ℕ) → list_all is_segment_byte s ≡ true → NoSlash s
no_slash_segment [] h = tt
no_slash_segment (b ∷ bs) h =
    let p = and_parts (is_segment_byte b) (list_all is_segment_byte bs) h in
    (no_slash_byte b p.0, no_slash_segment bs p.1)

-- a path before its last segment
pub record LastSegment (path : List ℕ) : Type 0 where
  pub folder : List ℕ
  pub name : List ℕ
  pub cut : IsCutAtLast path folder name
  pub not_empty : 0 < length name

further : (s folder : List ℕ) → IsFolder folder → IsFolder (s ++ 47 ∷ folder)
further s folder (inl e) = inr (s, ap (λ (x : List ℕ). s ++ 47 ∷ x) e)
further s folder (inr p) = inr (s ++ 47 ∷ p.0, ap (λ (x : List ℕ). s ++ 47 ∷ x) p.1 ∙ sym (append_assoc s (47 ∷ p.0) (47 ∷ [])))

last_of : (s : List ℕ) (ss : List (List ℕ)) → AllByRecursion IsSegment (s ∷ ss) → LastSegment (join_with_byte 47 (s ∷ ss))
last_of s [] all = record {
  folder = [];
  name = s;
  cut = record { is_folder = inl refl; is_last = no_slash_segment s all.0.1; whole = refl };
  not_empty = all.0.0;
}
last_of s (t ∷ ts) all =
    let more = last_of t ts all.1 in
    record {
      folder = s ++ 47 ∷ more.folder;
      name = more.name;
      cut = record {
        is_folder = further s more.folder more.cut.is_folder;
        is_last = more.cut.is_last;
        whole = ap (λ (x : List ℕ). s ++ 47 ∷ x) more.cut.whole ∙ sym (append_assoc s (47 ∷ more.folder) more.name);
      };
      not_empty = more.not_empty;
    }

pub last_segment : (path : List ℕ) → IsTargetPath path → LastSegment path
last_segment path p = by p.segments p.each p.joined
  where
    by : (ss : List (List ℕ)) → AllByRecursion IsSegment ss → path ≡ join_with_byte 47 ss → LastSegment path
    by [] all e = absurd (omega (arith, ap length e, p.least))
    by (s ∷ ss) all e = subst LastSegment (sym e) (last_of s ss all)
