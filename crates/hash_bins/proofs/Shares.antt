-- The bins that come about share all prefixes.
use Rattle.std.proofs.Common.{◌≡◌, ◌<◌, ◌≤◌, ℕ, true, false, List, [], ◌∷◌, ◌++◌, drop, length, nat_lt, take, refl, ap, sym, ◌∙◌, subst, arith, string_bytes, String}
use Rattle.std.proofs.lemmas.Bool.Decides.{nat_tests}
use Rattle.std.proofs.lemmas.List.{append-nil, append_assoc, drop-map, length-map, map-append, take-map}
use Rattle.std.specs.declared.alloc.Global.{Global}
use Rattle.hash_bins.specs.Bins.{AreBins, Bin, all_of}
use Rattle.hash_bins.specs.Views.{bin_view, bins_view, texts_view}
use Rattle.hash_bins.specs.declared.bins.Bin.{Bin as CodeBin}
use Rattle.hash_bins.specs.declared.bins.Count.{Count}
use Rattle.hash_bins.specs.declared.bins.Count.TheVariants as counts
use Rattle.hash_bins.specs.steps.Sharing.{bins_with, share_of}

pub shares : (count : Count) → AreBins count (bins_with (share_of count) (all_of count) (all_of count))
shares counts.Two = record { many = refl; numbered = refl; shared = refl; equal = refl }
shares counts.Four = record { many = refl; numbered = refl; shared = refl; equal = refl }
shares counts.Eight = record { many = refl; numbered = refl; shared = refl; equal = refl }
shares counts.Sixteen = record { many = refl; numbered = refl; shared = refl; equal = refl }
shares counts.ThirtyTwo = record { many = refl; numbered = refl; shared = refl; equal = refl }
shares counts.SixtyFour = record { many = refl; numbered = refl; shared = refl; equal = refl }

-- where too few prefixes are left there is no bin more
few : (share : ℕ) (ns rest : List (List ℕ)) → length rest < share → bins_with share ns rest ≡ []
few share [] rest less = refl
few share (n ∷ ns) rest less =
    let is : nat_lt (length rest) share ≡ true = grind (arith, nat_tests, less) in
    rw is refl

-- and where there are enough the next bin has its share
next : (share : ℕ) (n : List ℕ) (ns rest : List (List ℕ)) → share ≤ length rest
    → bins_with share (n ∷ ns) rest ≡ record { number = n; prefixes = take share rest } ∷ bins_with share ns (drop share rest)
next share n ns rest more =
    let is : nat_lt (length rest) share ≡ false = grind (arith, nat_tests, more) in
    rw is refl

-- the bins that were made are all, where no number or too few prefixes are left
pub ended : (count : Count) (share : ℕ) (made : List CodeBin) (numbers rest : List (String Global)) → share ≡ share_of count
    → bins_view made ++ bins_with share (texts_view numbers) (texts_view rest) ≡ bins_with share (all_of count) (all_of count)
    → bins_with share (texts_view numbers) (texts_view rest) ≡ [] → AreBins count (bins_view made)
ended count share made numbers rest is invariant none =
    let all : bins_view made ≡ bins_with share (all_of count) (all_of count) =
    sym (append-nil (bins_view made)) ∙ ap (λ (bs : List Bin). bins_view made ++ bs) (sym none) ∙ invariant in
    subst (λ (bs : List Bin). AreBins count bs) (sym (all ∙ ap (λ (n : ℕ). bins_with n (all_of count) (all_of count)) is)) (shares count)

pub none_left : (share : ℕ) (numbers rest : List (String Global)) → length numbers ≡ 0 → bins_with share (texts_view numbers) (texts_view rest) ≡ []
none_left share [] rest is = refl
none_left share (n ∷ ns) rest is = absurd (omega (arith, is))

pub too_few : (share : ℕ) (numbers rest : List (String Global)) → length rest < share → bins_with share (texts_view numbers) (texts_view rest) ≡ []
too_few share numbers rest less = few share (texts_view numbers) (texts_view rest) (subst (λ (n : ℕ). n < share) (sym (length-map rest string_bytes)) less)

-- a bin of this number, with these prefixes
abbrev pub named : List (String Global) → List ℕ → Bin
named own number = record { number = number; prefixes = texts_view own }

-- one bin more
pub made_one : (share : ℕ) (made : List CodeBin) (bin : CodeBin) (number : String Global) (others rest own later : List (String Global)) → share ≤ length rest
    → own ≡ take share rest → later ≡ drop share rest → bin_view bin ≡ record { number = string_bytes number; prefixes = texts_view own }
    → bins_view (made ++ bin ∷ []) ++ bins_with share (texts_view others) (texts_view later)
    ≡ bins_view made ++ bins_with share (texts_view (number ∷ others)) (texts_view rest)
made_one share made bin number others rest own later more own_is later_is is =
    let fits : share ≤ length (texts_view rest) = subst (λ (n : ℕ). share ≤ n) (sym (length-map rest string_bytes)) more in
    let own_view : texts_view own ≡ take share (texts_view rest) = ap texts_view own_is ∙ sym (take-map string_bytes share rest) in
    let later_view : texts_view later ≡ drop share (texts_view rest) = ap texts_view later_is ∙ sym (drop-map string_bytes share rest) in
    let whole : bin_view bin ≡ record { number = string_bytes number; prefixes = take share (texts_view rest) } =
    is ∙ ap (λ (ps : List (List ℕ)). record { number = string_bytes number; prefixes = ps }) own_view in
    ap (λ (bs : List Bin). bs ++ bins_with share (texts_view others) (texts_view later)) (map-append bin_view made (bin ∷ []))
    ∙ append_assoc (bins_view made) (bin_view bin ∷ []) (bins_with share (texts_view others) (texts_view later))
    ∙ ap (λ (b : Bin). bins_view made ++ b ∷ bins_with share (texts_view others) (texts_view later)) whole
    ∙ ap (λ (ps : List (List ℕ)). bins_view made ++ record { number = string_bytes number; prefixes = take share (texts_view rest) } ∷ bins_with share (texts_view others) ps) later_view
    ∙ ap (λ (bs : List Bin). bins_view made ++ bs) (sym (next share (string_bytes number) (texts_view others) (texts_view rest) fits))
