-- Paths as segments with a slash between each two, and what is left of them where a text is cut at its slashes.
use Rattle.std.proofs.Common.{◌≡◌, ◌≢◌, ℕ, zero, suc, ◌<◌, ◌≤◌, List, [], ◌∷◌, length, true, false, not, ◌&&◌, ◌==◌, codes, bytes_eq, refl, sym, ◌∙◌, ap, subst, arith, IsTrue, ◌↔◌}
use Rattle.std.proofs.lemmas.Bool.{and_parts, and_from, not-true, not_from_false, eqb-false, ne_eqb, true≢false, false_from_ne_true, both_ways}
use Rattle.std.proofs.lemmas.Slice.Eq.{bytes_eq-Decides}
use Rattle.std.proofs.lemmas.List.Splits.{slice_split_none, slice_split_at, join_with_byte-slice_split}
use Rattle.std.specs.List.{join_with_byte, slice_split, list_all, All, AllByRecursion}
use Rattle.path_patterns.specs.Bytes.{is_segment_byte}
use Rattle.path_patterns.specs.Grammar.{IsSegment, IsTargetPath}
use Rattle.path_patterns.specs.steps.Segments.{is_segment, are_segments}

differ : (s t : List ℕ) → not (bytes_eq s t) ≡ true → s ≢ t
differ s t h e = both_ways (bytes_eq s t) (not-true (bytes_eq s t) h) ((bytes_eq-Decides s t).1 e)

differ_back : (s t : List ℕ) → s ≢ t → not (bytes_eq s t) ≡ true
differ_back s t h = not_from_false (bytes_eq s t) (false_from_ne_true (bytes_eq s t) (λ e. h ((bytes_eq-Decides s t).0 e)))

some_byte : (s : List ℕ) → not (length s == 0) ≡ true → 0 < length s
some_byte s h =
    let no = eqb-false (length s) 0 (not-true (length s == 0) h) in
    omega (arith, no)

some_byte_back : (s : List ℕ) → 0 < length s → not (length s == 0) ≡ true
some_byte_back s h = not_from_false (length s == 0) (ne_eqb (length s) 0 (λ e. omega arith))

pub segment_tells : (s : List ℕ) → IsTrue (is_segment s) ↔ IsSegment s
segment_tells s =
    let some = not (length s == 0) in
    let one = not (bytes_eq s (codes ".")) in
    let two = not (bytes_eq s (codes "..")) in
    let all = list_all is_segment_byte s in (
      λ h.
          let a = and_parts ((some && one) && two) all h in
          let b = and_parts (some && one) two a.0 in
          let c = and_parts some one b.0 in
          (some_byte s c.0, a.1, differ s (codes ".") c.1, differ s (codes "..") b.1),
      λ h.
          and_from ((some && one) && two) all
          (and_from (some && one) two (and_from some one (some_byte_back s h.0) (differ_back s (codes ".") h.2)) (differ_back s (codes "..") h.3))
          h.1,
    )

pub segments_tell : (ss : List (List ℕ)) → IsTrue (list_all is_segment ss) ↔ AllByRecursion IsSegment ss
segments_tell [] = (λ h. tt, λ h. refl)
segments_tell (s ∷ ss) = (
  λ h. let a = and_parts (is_segment s) (list_all is_segment ss) h in ((segment_tells s).0 a.0, (segments_tell ss).0 a.1),
  λ h. and_from (is_segment s) (list_all is_segment ss) ((segment_tells s).1 h.0) ((segments_tell ss).1 h.1),
)

no_slash : (b : ℕ) → is_segment_byte b ≡ true → (b == 47) ≡ false
no_slash b h = ne_eqb b 47 (λ e. true≢false (sym (subst (λ (k : ℕ). is_segment_byte k ≡ true) e h)))

no_slashes : (s : List ℕ) → list_all is_segment_byte s ≡ true → All (λ b. (b == 47) ≡ false) s
no_slashes [] h k d l = absurd (omega (arith, l))
no_slashes (b ∷ bs) h zero d l = no_slash b (and_parts (is_segment_byte b) (list_all is_segment_byte bs) h).0
no_slashes (b ∷ bs) h (suc k) d l =
    no_slashes bs (and_parts (is_segment_byte b) (list_all is_segment_byte bs) h).1 k d (omega (arith, l))

-- the text of segments, cut at its slashes, is the segments again
cut_again : (s : List ℕ) (ss : List (List ℕ)) → AllByRecursion IsSegment (s ∷ ss) → slice_split (λ b. b == 47) (join_with_byte 47 (s ∷ ss)) ≡ s ∷ ss
cut_again s [] all = slice_split_none (λ b. b == 47) s (no_slashes s all.0.1)
cut_again s (t ∷ ts) all =
    slice_split_at (λ b. b == 47) s 47 (join_with_byte 47 (t ∷ ts)) (no_slashes s all.0.1) refl
    ∙ ap (λ (x : List (List ℕ)). s ∷ x) (cut_again t ts all.1)

pub path_tells : (text : List ℕ) → length text ≤ 200 → IsTrue (are_segments text) ↔ IsTargetPath text
path_tells text few = (
  λ h. record {
    segments = slice_split (λ b. b == 47) text;
    each = (segments_tell (slice_split (λ b. b == 47) text)).0 h;
    joined = sym (join_with_byte-slice_split 47 text);
    least = long text h;
    most = few;
  },
  λ p. back p.segments p.each p.joined p.least,
)
  where
    long : (bytes : List ℕ) → are_segments bytes ≡ true → 0 < length bytes
    long [] h = absurd (true≢false (sym h))
    long (b ∷ bs) h = omega arith

    back : (ss : List (List ℕ)) → AllByRecursion IsSegment ss → text ≡ join_with_byte 47 ss → 0 < length text → are_segments text ≡ true
    back [] all e some = absurd (omega (arith, ap length e))
    back (s ∷ ss) all e some =
        ap (λ (x : List ℕ). list_all is_segment (slice_split (λ b. b == 47) x)) e
        ∙ ap (λ (x : List (List ℕ)). list_all is_segment x) (cut_again s ss all)
        ∙ (segments_tell (s ∷ ss)).1 all
