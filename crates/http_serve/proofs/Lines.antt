-- Serving one more connection.
use Rattle.std.proofs.Common.{◌≡◌, ℕ, ◌+◌, ◌<◌, List, [], ◌∷◌, ◌++◌, length, take, drop, map, get_or, Option, Result, Ok, Err, Bool, true, false, refl, sym, ap, ◌∙◌, arith, subst}
use Rattle.std.specs.Result.{is_ok}
use Rattle.std.proofs.Math.ListN.{set}
use Rattle.std.proofs.lemmas.List.{take_more, take_more_set, drop-set-lt, get_or-drop, map-append, drop-drop}
use Rattle.http_serve.specs.declared.serve.ServeFault.{ServeFault}
use Rattle.store.specs.Standing.{Standing}
use Rattle.http_serve.specs.Serving.{Line, EndedBy, ServesBy, TellsBy, ToldBy, one_if_ok}
use Rattle.http_serve.specs.declared.replies.Answer.{Answer}
use Rattle.http_serve.proofs.Responding.{ends}

-- one more connection, at the end
tells-more : (only : Bool) (lines : List Line) (helds : List (Option (List ℕ))) (told : List (Option Answer)) (s m t : Standing) (n : ℕ)
    (line : Line) (held : Option (List ℕ)) (answer : Option Answer) (r : Result (Unit {0}) ServeFault)
    → TellsBy only lines helds told s m n → ToldBy only line held m r answer t
    → TellsBy only (lines ++ line ∷ []) (helds ++ held ∷ []) (told ++ answer ∷ []) s t (n + one_if_ok r)
tells-more only [] [] [] s m t n line held answer r h e =
    (r, t, 0, subst (λ x. ToldBy only line held x r answer t) h.0 e, (refl, refl), ap (λ k. k + one_if_ok r) h.1 ∙ omega arith)
tells-more only [] [] (a ∷ told) s m t n line held answer r h e = absurd h
tells-more only [] (x ∷ helds) told s m t n line held answer r h e = absurd h
tells-more only (x ∷ lines) [] told s m t n line held answer r h e = absurd h
tells-more only (x ∷ lines) (y ∷ helds) [] s m t n line held answer r h e = absurd h
tells-more only (x ∷ lines) (y ∷ helds) (a ∷ told) s m t n line held answer r (result, mid, others, first, rest, count) e = (
  result,
  mid,
  others + one_if_ok r,
  first,
  tells-more only lines helds told mid m t others line held answer r rest e,
  ap (λ k. k + one_if_ok r) count ∙ omega arith,
)

-- the same without what is told
serves-more : (only : Bool) (lines : List Line) (helds : List (Option (List ℕ))) (s m t : Standing) (n : ℕ) (line : Line) (held : Option (List ℕ)) (r : Result (Unit {0}) ServeFault)
    → ServesBy only lines helds s m n → EndedBy only line held m r t → ServesBy only (lines ++ line ∷ []) (helds ++ held ∷ []) s t (n + one_if_ok r)
serves-more only [] [] s m t n line held r h e =
    (r, t, 0, subst (λ x. EndedBy only line held x r t) h.0 e, (refl, refl), ap (λ k. k + one_if_ok r) h.1 ∙ omega arith)
serves-more only [] (x ∷ helds) s m t n line held r h e = absurd h
serves-more only (x ∷ lines) [] s m t n line held r h e = absurd h
serves-more only (x ∷ lines) (y ∷ helds) s m t n line held r (result, mid, others, first, rest, count) e =
    (result, mid, others + one_if_ok r, first, serves-more only lines helds mid m t others line held r rest e, ap (λ k. k + one_if_ok r) count ∙ omega arith)

-- and so they are served, whatever is told of them
pub serves : (only : Bool) (lines : List Line) (helds : List (Option (List ℕ))) (told : List (Option Answer)) (s t : Standing) (n : ℕ)
    → TellsBy only lines helds told s t n → ServesBy only lines helds s t n
serves only [] [] [] s t n h = h
serves only [] [] (a ∷ told) s t n h = absurd h
serves only [] (x ∷ helds) told s t n h = absurd h
serves only (x ∷ lines) [] told s t n h = absurd h
serves only (x ∷ lines) (y ∷ helds) [] s t n h = absurd h
serves only (x ∷ lines) (y ∷ helds) (a ∷ told) s t n (result, mid, others, first, rest, count) =
    (result, mid, others, ends only x y s mid result a first, serves only lines helds told mid t others rest, count)

-- the item at a place, where the rests from there on agree
same-item : {C : Type 0} (old now : List C) (i : ℕ) (d : C) → drop i now ≡ drop i old → get_or now i d ≡ get_or old i d
same-item old now i d e =
    let at : i + 0 ≡ i = omega arith in
    ap (λ k. get_or now k d) (sym at) ∙ sym (get_or-drop i now 0 d) ∙ ap (λ l. get_or l 0 d) e ∙ get_or-drop i old 0 d ∙ ap (λ k. get_or old k d) at

module _ {C : Type 0} (line_of : C → Line) (held_of : C → Option (List ℕ)) (told_of : C → Option Answer) where
  pub told-next : (only : Bool) (old now : List C) (i : ℕ) (d x : C) (s m t : Standing) (n : ℕ) (r : Result (Unit {0}) ServeFault)
      → i < length now → length now ≡ length old → drop i now ≡ drop i old
      → TellsBy only (map line_of (take i old)) (map held_of (take i now)) (map told_of (take i now)) s m n
      → ToldBy only (line_of (get_or now i d)) (held_of x) m r (told_of x) t
      → TellsBy only (map line_of (take (i + 1) old)) (map held_of (take (i + 1) (set now i x))) (map told_of (take (i + 1) (set now i x))) s t (n + one_if_ok r)
  told-next only old now i d x s m t n r lt same rest h e =
      let in_old : i < length old = omega arith in
      let lines : map line_of (take (i + 1) old) ≡ map line_of (take i old) ++ line_of (get_or now i d) ∷ [] =
      ap (map line_of) (take_more old i d in_old ∙ ap (λ y. take i old ++ y ∷ []) (sym (same-item old now i d rest))) ∙ map-append line_of (take i old) (get_or now i d ∷ []) in
      let helds : map held_of (take (i + 1) (set now i x)) ≡ map held_of (take i now) ++ held_of x ∷ [] =
      ap (map held_of) (take_more_set now i x lt) ∙ map-append held_of (take i now) (x ∷ []) in
      let told : map told_of (take (i + 1) (set now i x)) ≡ map told_of (take i now) ++ told_of x ∷ [] =
      ap (map told_of) (take_more_set now i x lt) ∙ map-append told_of (take i now) (x ∷ []) in
      rw (lines, helds, told) (tells-more only _ _ _ s m t n _ _ _ r h e)

module _ {C : Type 0} (line_of : C → Line) (held_of : C → Option (List ℕ)) where
  pub served-next : (only : Bool) (old now : List C) (i : ℕ) (d x : C) (s m t : Standing) (n : ℕ) (r : Result (Unit {0}) ServeFault)
      → i < length now → length now ≡ length old → drop i now ≡ drop i old
      → ServesBy only (map line_of (take i old)) (map held_of (take i now)) s m n
      → EndedBy only (line_of (get_or now i d)) (held_of x) m r t
      → ServesBy only (map line_of (take (i + 1) old)) (map held_of (take (i + 1) (set now i x))) s t (n + one_if_ok r)
  served-next only old now i d x s m t n r lt same rest h e =
      let in_old : i < length old = omega arith in
      let lines : map line_of (take (i + 1) old) ≡ map line_of (take i old) ++ line_of (get_or now i d) ∷ [] =
      ap (map line_of) (take_more old i d in_old ∙ ap (λ y. take i old ++ y ∷ []) (sym (same-item old now i d rest))) ∙ map-append line_of (take i old) (get_or now i d ∷ []) in
      let helds : map held_of (take (i + 1) (set now i x)) ≡ map held_of (take i now) ++ held_of x ∷ [] =
      ap (map held_of) (take_more_set now i x lt) ∙ map-append held_of (take i now) (x ∷ []) in
      rw (lines, helds) (serves-more only _ _ s m t n _ _ r h e)

pub rest-next : {C : Type 0} (old now : List C) (i : ℕ) (x : C) → drop i now ≡ drop i old → drop (i + 1) (set now i x) ≡ drop (i + 1) old
rest-next old now i x e = drop-set-lt (i + 1) now i x (omega arith) ∙ drop_more now i ∙ ap (drop 1) e ∙ sym (drop_more old i)
  where
    drop_more : {A : Type 0} (l : List A) (i : ℕ) → drop (i + 1) l ≡ drop 1 (drop i l)
    drop_more l i = sym (drop-drop 1 i l)

pub count-ok : (r : Result (Unit {0}) ServeFault) → is_ok r ≡ true → one_if_ok r ≡ 1
count-ok (Ok u) e = refl
count-ok (Err f) e = let no : ⊥ = cc in absurd no

pub count-err : (r : Result (Unit {0}) ServeFault) → is_ok r ≡ false → one_if_ok r ≡ 0
count-err (Ok u) e = let no : ⊥ = cc in absurd no
count-err (Err f) e = refl
