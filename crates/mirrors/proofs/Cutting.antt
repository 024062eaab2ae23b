-- A text is cut before its first slash in one way, and an authority has no slash.
use Rattle.std.proofs.Common.{◌≡◌, ◌≢◌, ℕ, zero, suc, ◌<◌, ◌≤◌, ◌⊎◌, List, [], ◌∷◌, ◌++◌, length, take, drop, get_or, refl, sym, ◌∙◌, ap, subst, arith, inl, inr, true, false, append-nil}
use Rattle.std.proofs.lemmas.Bool.{and_parts, true≢false}
use Rattle.std.proofs.lemmas.List.{take-append-drop}
use Rattle.std.proofs.Math.Seq.{drop-cons}
use Rattle.std.proofs.lemmas.Fmt.{digits_decimal}
use Rattle.std.proofs.lemmas.Str.Parse.{IsNumeralModel, numerals_by_value, tells_digits, not_in_digits}
use Rattle.std.specs.Fmt.{decimal}
use Rattle.std.specs.Int.{IsInRange}
use Rattle.std.specs.List.{AllByRecursion, list_all}
use Rattle.std.specs.Str.Parse.{AllDigits, digits_value}
use Rattle.mirrors.specs.Address.{Authority, alone, numbered, IsHost, is_host_byte}
use Rattle.mirrors.specs.steps.Cut.{IsCut}

-- no byte is this one
abbrev pub Lacks : ℕ → List ℕ → Type 0
Lacks c text = AllByRecursion (λ b. b ≢ c) text

lacks_joined : (c : ℕ) (x y : List ℕ) → Lacks c x → Lacks c y → Lacks c (x ++ y)
lacks_joined c [] y a b = b
lacks_joined c (d ∷ x) y a b = (a.0, lacks_joined c x y a.1 b)

-- by index, and back
pub lacks_each : (c : ℕ) (text : List ℕ) → ((i : ℕ) → i < length text → get_or text i 0 ≢ c) → Lacks c text
lacks_each c [] h = tt
lacks_each c (b ∷ bs) h = (h 0 (omega arith), lacks_each c bs (λ i l. h (suc i) (omega (arith, l))))

pub each_lacks : (c : ℕ) (text : List ℕ) → Lacks c text → (i : ℕ) → i < length text → get_or text i 0 ≢ c
each_lacks c [] h i l = absurd (omega (arith, l))
each_lacks c (b ∷ bs) h zero l = h.0
each_lacks c (b ∷ bs) h (suc i) l = each_lacks c bs h.1 i (omega (arith, l))

-- a text that lacks a byte is none around it
pub not_around : (c : ℕ) (text x y : List ℕ) → Lacks c text → text ≡ x ++ (c ∷ y) → ⊥
not_around c text x y lacks e = inside x (subst (Lacks c) e lacks)
  where
    inside : (z : List ℕ) → Lacks c (z ++ (c ∷ y)) → ⊥
    inside [] h = h.0 refl
    inside (b ∷ z) h = inside z h.1

-- ---- what an authority lacks

host_lacks : (c : ℕ) → is_host_byte c ≡ false → (host : List ℕ) → list_all is_host_byte host ≡ true → Lacks c host
host_lacks c fails [] h = tt
host_lacks c fails (b ∷ bs) h =
    let p = and_parts (is_host_byte b) (list_all is_host_byte bs) h in
    (λ e. true≢false (sym p.0 ∙ ap is_host_byte e ∙ fails), host_lacks c fails bs p.1)

pub host_lacks_colon : (host : List ℕ) → IsHost host → Lacks 58 host
host_lacks_colon host h = host_lacks 58 refl host h.2

own : IsNumeralModel (AllDigits 10) (digits_value 10)
own = numerals_by_value (AllDigits 10) tells_digits

decimal_lacks_slash : (p : ℕ) → p ≤ 65535 → Lacks 47 (decimal p)
decimal_lacks_slash p few =
    lacks_each 47 (decimal p) (not_in_digits own (decimal p) 47 (digits_decimal own p (omega (arith, few))) (λ (r : IsInRange 48 57 47). omega arith))

pub authority_lacks_slash : (host : List ℕ) (port : ℕ) (text : List ℕ) → IsHost host → Authority host port text → Lacks 47 text
authority_lacks_slash host _ _ h alone = host_lacks 47 refl host h.2
authority_lacks_slash host port _ h (numbered some few) =
    lacks_joined 47 host (58 ∷ decimal port) (host_lacks 47 refl host h.2) ((λ e. omega (arith, e)), decimal_lacks_slash port few)

-- ---- one cut

-- what begins with a byte, or is nothing
abbrev pub Begins : ℕ → List ℕ → Type 0
Begins c text = (text ≡ []) ⊎ ((rest : List ℕ) × (text ≡ c ∷ rest))

begins_first : (c d : ℕ) (text rest : List ℕ) → Begins c text → text ≡ d ∷ rest → d ≡ c
begins_first c d text rest (inl z) e = cc
begins_first c d text rest (inr p) e =
    let k = p.1 in
    cc

head_of : (a b : ℕ) (x y : List ℕ) → ◌≡◌ {A = List ℕ} (a ∷ x) (b ∷ y) → a ≡ b
head_of a b x y e = cc

pub rest_of : (a b : ℕ) (x y : List ℕ) → ◌≡◌ {A = List ℕ} (a ∷ x) (b ∷ y) → x ≡ y
rest_of a b x y e = cc

pub one_front : (s : ℕ) (f g p q : List ℕ) → Lacks s f → Lacks s g → Begins s p → Begins s q → f ++ p ≡ g ++ q → (f ≡ g) × (p ≡ q)
one_front s [] [] p q a b x y e = (refl, e)
one_front s [] (c ∷ g) p q a b x y e = absurd (b.0 (begins_first s c p (g ++ q) x e))
one_front s (c ∷ f) [] p q a b x y e = absurd (a.0 (begins_first s c q (f ++ p) y (sym e)))
one_front s (c ∷ f) (d ∷ g) p q a b x y e =
    let same = one_front s f g p q a.1 b.1 x y (rest_of c d (f ++ p) (g ++ q) e) in
    let head = head_of c d (f ++ p) (g ++ q) e in
    let tail = same.0 in
    (cc, same.1)

pub one_cut : (text f p g q : List ℕ) → IsCut text f p → IsCut text g q → (f ≡ g) × (p ≡ q)
one_cut text f p g q a b = one_front 47 f g p q a.is_front b.is_front a.is_back b.is_back (sym a.whole ∙ b.whole)

-- ---- where the code cuts

pub cut_nowhere : (text : List ℕ) → ((i : ℕ) → i < length text → get_or text i 0 ≢ 47) → IsCut text text []
cut_nowhere text h = record { whole = sym (append-nil text); is_front = lacks_each 47 text h; is_back = inl refl }

lacks_front : (k : ℕ) (text : List ℕ) → ((i : ℕ) → i < k → get_or text i 0 ≢ 47) → Lacks 47 (take k text)
lacks_front zero text h = tt
lacks_front (suc k) [] h = tt
lacks_front (suc k) (b ∷ bs) h = (h 0 (omega arith), lacks_front k bs (λ i l. h (suc i) (omega (arith, l))))

pub cut_before : (text : List ℕ) (k : ℕ) → k < length text → get_or text k 0 ≡ 47
    → ((i : ℕ) → i < k → get_or text i 0 ≢ 47) → IsCut text (take k text) (drop k text)
cut_before text k l e h = record {
  whole = sym (take-append-drop k text);
  is_front = lacks_front k text h;
  is_back = inr (drop (suc k) text, drop-cons text k 0 l ∙ ap (λ (b : ℕ). b ∷ drop (suc k) text) e);
}
