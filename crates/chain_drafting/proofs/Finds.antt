-- Rows of a key table that a word finds.
use Rattle.std.proofs.Common.{◌≡◌, ℕ, zero, suc, ◌+◌, ◌<◌, ◌≤◌, List, [], ◌∷◌, ◌++◌, length, take, drop, get_or, refl, sym, ap, ◌∙◌, subst, arith}
use Rattle.std.specs.List.{AllByRecursion}
use Rattle.std.proofs.lemmas.List.{map-append}
use Rattle.canonical_json.specs.Json.{Json}
use Rattle.keys_roles.specs.Plain as plain
use Rattle.keys_roles.specs.Views.{id_text, key_view, rows_view}
use Rattle.keys_roles.specs.declared.Key.{Key}
use Rattle.keys_roles.specs.declared.KeyId.{KeyId}
use Rattle.document_parts.specs.Documents.{Document}
use Rattle.metadata.specs.Shape.{IsDocument}
use Rattle.document_parts.specs.declared.documents.Kind.{Kind}
use Rattle.chain_drafting.specs.Finding.{Answer, AreSeveral, Finds, IsCalled, IsNameOf, IsNotCalled, IsOne}
use Rattle.chain_drafting.specs.steps.Found.{FindsBy, IsFirstCalled}

abbrev pub Entry : Type 0
Entry = KeyId × Key

abbrev pub row_of : Entry → List ℕ × plain.Key
row_of e = (id_text e.0, key_view e.1)

-- the row at a place, with what is before it and after it
split_at : (P : Entry → Type 0) (rows : List Entry) (i : ℕ) → i < length rows → ((d : Entry) → P (get_or rows i d))
    → (r : Entry) × (rows ≡ take i rows ++ r ∷ drop (suc i) rows) × P r
split_at P [] i lt at = absurd (omega (arith, lt))
split_at P (r ∷ rows) zero lt at = (r, refl, at r)
split_at P (r ∷ rows) (suc i) lt at =
    let h = split_at P rows i (omega (arith, lt)) (λ d. at d) in
    (h.0, ap (λ (l : List Entry). r ∷ l) h.1, h.2)

-- the same of a row that is known
split_by : (rows : List Entry) (i : ℕ) (r : Entry) → i < length rows → r ≡ get_or rows i r → rows ≡ take i rows ++ r ∷ drop (suc i) rows
split_by [] i r lt is = absurd (omega (arith, lt))
split_by (e ∷ rows) zero r lt is = ap (λ (x : Entry). x ∷ rows) (sym is)
split_by (e ∷ rows) (suc i) r lt is = ap (λ (l : List Entry). e ∷ l) (split_by rows i r (omega (arith, lt)) is)

pub all_next : (P : List ℕ × plain.Key → Type 0) (rows : List Entry) (i : ℕ) (r : Entry) → i < length rows → r ≡ get_or rows i r → AllByRecursion P (rows_view (take i rows)) → P (row_of r)
    → AllByRecursion P (rows_view (take (suc i) rows))
all_next P [] i r lt is all p = absurd (omega (arith, lt))
all_next P (e ∷ rows) zero r lt is all p = (subst (λ (x : Entry). P (row_of x)) is p, tt)
all_next P (e ∷ rows) (suc i) r lt is all p = (all.0, all_next P rows i r (omega (arith, lt)) is all.1 p)

pub one_found : (rows behind : List Entry) (names : Json) (word : List ℕ) (i : ℕ) (r : Entry) (name : List ℕ) → r ≡ get_or rows i r → behind ≡ drop (suc i) rows
    → IsFirstCalled rows names word i → AllByRecursion (IsNotCalled names word) (rows_view behind) → IsNameOf names word (id_text r.0) name
    → IsOne (rows_view rows) names word (key_view r.1) name
one_found rows behind names word i r name at rest first none named = record {
  front = rows_view (take i rows);
  id = id_text r.0;
  back = rows_view behind;
  is = ap (λ (l : List Entry). rows_view l) (split_by rows i r first.within at) ∙ map-append row_of (take i rows) (r ∷ drop (suc i) rows)
      ∙ ap (λ (l : List Entry). rows_view (take i rows) ++ row_of r ∷ rows_view l) (sym rest);
  called = subst (λ (x : Entry). IsCalled names word (id_text x.0)) (sym at) (first.called r);
  named = named;
  before = first.before;
  behind = none;
}

pub several_found : (rows behind : List Entry) (names : Json) (word : List ℕ) (i j : ℕ) → behind ≡ drop (suc i) rows → IsFirstCalled rows names word i → IsFirstCalled behind names word j
    → AreSeveral (rows_view rows) names word
several_found rows behind names word i j rest first second =
    let a = split_at (λ e. IsCalled names word (id_text e.0)) rows i first.within first.called in
    let b = split_at (λ e. IsCalled names word (id_text e.0)) behind j second.within second.called in
    record {
      front = rows_view (take i rows);
      first = row_of a.0;
      middle = rows_view (take j behind);
      second = row_of b.0;
      back = rows_view (drop (suc j) behind);
      is = ap (λ (l : List Entry). rows_view l) a.1 ∙ map-append row_of (take i rows) (a.0 ∷ drop (suc i) rows)
          ∙ ap (λ (l : List Entry). rows_view (take i rows) ++ row_of a.0 ∷ rows_view l) (sym rest ∙ b.1)
          ∙ ap (λ (l : List (List ℕ × plain.Key)). rows_view (take i rows) ++ row_of a.0 ∷ l) (map-append row_of (take j behind) (b.0 ∷ drop (suc j) behind));
      first_called = a.2;
      second_called = b.2;
    }

pub all_more : (P : List ℕ × plain.Key → Type 0) (rows : List Entry) (i : ℕ) (r : Entry) → i < length rows → r ≡ get_or rows i r → AllByRecursion P (rows_view (take i rows)) → P (row_of r)
    → AllByRecursion P (rows_view (take (i + 1) rows))
all_more P rows i r lt is all p =
    let next : suc i ≡ i + 1 = omega arith in
    subst (λ (n : ℕ). AllByRecursion P (rows_view (take n rows))) next (all_next P rows i r lt is all p)

pub all_taken : (P : List ℕ × plain.Key → Type 0) (rows : List Entry) (i : ℕ) → length rows ≤ i → AllByRecursion P (rows_view (take i rows)) → AllByRecursion P (rows_view rows)
all_taken P [] i le all = tt
all_taken P (r ∷ rows) zero le all = absurd (omega (arith, le))
all_taken P (r ∷ rows) (suc i) le all = (all.0, all_taken P rows i (omega (arith, le)) all.1)

pub finds_by : (kind : Kind) (file : List ℕ) (word : List ℕ) (document : Document) (answer : Answer) → IsDocument kind file document → FindsBy document word answer → Finds kind file word answer
finds_by kind file word document answer is by = record {
  document = document;
  part = by.part;
  names = by.names;
  is = is;
  signed = by.signed;
  named = by.named;
  finds = by.finds;
}
