-- The target files of the rows of `blob`, of which digest and length are read.
use Rattle.std.proofs.Common.{◌≡◌, inl, inr, ℕ, List, [], ◌∷◌, length, map, refl, sym, ap, subst, ◌∙◌}
use Rattle.std.specs.List.{AllByRecursion}
use Rattle.hex.specs.Hex.{encode_lower}
use Rattle.sha2.specs.Sha256.{sha256}
use Rattle.sqlite.specs.Order.{Row}
use Rattle.sqlite_rules.specs.Lists.{Has}
use Rattle.repository_rows.specs.Contents.{lengths_of}
use Rattle.table_rows.specs.steps.Loading.{AreSingle, FitsBlob, FitsLength, IsBlobRow, IsLengthRow}
use Rattle.sql_tables.specs.Loading.{AreRead, AreSpoiled}

module _ (rows : List Row) where
  abbrev Found : List ℕ × ℕ → Type 0
  Found m = (r : Row) × Has rows r × IsLengthRow r m

  -- the bytes of the row of each
  abbrev pub files_of : (ms : List (List ℕ × ℕ)) → ((m : List ℕ × ℕ) → Has ms m → Found m) → List (List ℕ × List ℕ)
  files_of [] from = []
  files_of (m ∷ ms) from = (m.0, (from m (inl refl)).2.0) ∷ files_of ms (λ n h. from n (inr h))

  pub lengths_are : (ms : List (List ℕ × ℕ)) (from : (m : List ℕ × ℕ) → Has ms m → Found m) → lengths_of (files_of ms from) ≡ ms
  lengths_are [] from = refl
  lengths_are (m ∷ ms) from =
      let here = (from m (inl refl)).2.2 in
      let later = lengths_are ms (λ n h. from n (inr h)) in
      λ i. (m.0, here i) ∷ later i

  pub keys_are : (ms : List (List ℕ × ℕ)) (from : (m : List ℕ × ℕ) → Has ms m → Found m) → map (λ r. r.0) (files_of ms from) ≡ map (λ m. m.0) ms
  keys_are [] from = refl
  keys_are (m ∷ ms) from = ap (λ ks. m.0 ∷ ks) (keys_are ms (λ n h. from n (inr h)))

  pub digests_are : (ms : List (List ℕ × ℕ)) (from : (m : List ℕ × ℕ) → Has ms m → Found m) → AllByRecursion (λ r. sha256 r.1 ≡ r.0) (files_of ms from)
  digests_are [] from = tt
  digests_are (m ∷ ms) from = ((from m (inl refl)).2.3, digests_are ms (λ n h. from n (inr h)))

  each_file : (ms : List (List ℕ × ℕ)) (from : (m : List ℕ × ℕ) → Has ms m → Found m) (x : List ℕ × List ℕ) → Has (files_of ms from) x → (r : Row) × Has rows r × IsBlobRow r x
  each_file [] from x h = absurd h
  each_file (m ∷ ms) from x (inl is) = let it = from m (inl refl) in (it.0, it.1, subst (IsBlobRow it.0) (sym is) it.2.1)
  each_file (m ∷ ms) from x (inr later) = each_file ms (λ n h. from n (inr h)) x later

  file_there : (ms : List (List ℕ × ℕ)) (from : (m : List ℕ × ℕ) → Has ms m → Found m) (m : List ℕ × ℕ) → Has ms m → (b : List ℕ) × Has (files_of ms from) (m.0, b)
  file_there [] from m h = absurd h
  file_there (k ∷ ms) from m (inl is) = ((from k (inl refl)).2.0, inl (ap (λ (z : List ℕ × ℕ). (z.0, (from k (inl refl)).2.0)) is))
  file_there (k ∷ ms) from m (inr later) = let it = file_there ms (λ n h. from n (inr h)) m later in (it.0, inr it.1)

  pub files_fit : (ms : List (List ℕ × ℕ)) (from : (m : List ℕ × ℕ) → Has ms m → Found m) → ((m : List ℕ × ℕ) → Has ms m → FitsLength m) → (x : List ℕ × List ℕ) → Has (files_of ms from) x → FitsBlob x
  files_fit [] from fit x h = absurd h
  files_fit (m ∷ ms) from fit x (inl is) = subst FitsBlob (sym is) (fit m (inl refl))
  files_fit (m ∷ ms) from fit x (inr later) = files_fit ms (λ n h. from n (inr h)) (λ n h. fit n (inr h)) x later

  pub files_read : (ms : List (List ℕ × ℕ)) (read : AreRead IsLengthRow FitsLength rows ms) → AreSingle rows → AreRead IsBlobRow FitsBlob rows (files_of ms read.from)
  files_read ms read single = record {
    from = each_file ms read.from;
    each = λ r h.
        let m = read.each r h in
        let b = file_there ms read.from m.0 m.1 in
        let s = each_file ms read.from (m.0.0, b.0) b.1 in
        let same : s.0 ≡ r = single s.0 r (encode_lower m.0.0) s.1 h s.2.0 m.2.1.0 in
        ((m.0.0, b.0), b.1, subst (λ q. IsBlobRow q (m.0.0, b.0)) same s.2);
    fit = files_fit ms read.from read.fit;
  }

-- ---- rows that are spoiled are it whole too

abbrev pub FitsFile : List ℕ × List ℕ → Type 0
FitsFile r = FitsBlob r × (sha256 r.1 ≡ r.0)

pub spoiled_files : (rows : List Row) → AreSpoiled IsLengthRow FitsLength rows → AreSpoiled IsBlobRow FitsFile rows
spoiled_files rows (inl bad) = inl (bad.0, bad.1, λ x fits reads. bad.2 (x.0, length x.1) fits.0 (x.1, reads, refl, fits.1))
spoiled_files rows (inr bad) = inr (
  bad.0,
  bad.1,
  (bad.2.0, bad.6.0),
  (bad.3.0, bad.7.0),
  bad.4,
  bad.5,
  bad.6.1,
  bad.7.1,
  (bad.8, bad.6.3),
  (bad.9, bad.7.3),
  bad.10,
  λ e.
      let long : bad.2.1 ≡ bad.3.1 = sym bad.6.2 ∙ ap (λ (z : List ℕ × List ℕ). length z.1) e ∙ bad.7.2 in
      bad.11 (λ i. (bad.10 i, long i)),
)
