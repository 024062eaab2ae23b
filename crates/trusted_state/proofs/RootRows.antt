-- Version and bytes of the roots that are kept.
use Rattle.std.proofs.Common.{◌≡◌, ℕ, suc, ◌+◌, ◌-◌, ◌≤◌, List, [], ◌∷◌, ◌++◌, map, length, Option, Some, None, sym, ap, ◌∙◌, subst, arith, length-append}
use Rattle.std.specs.Prelude.{IfNone, option_map}
use Rattle.std.proofs.Math.Seq.{append_snoc}
use Rattle.std.proofs.lemmas.List.{append-nil, length-map}
use Rattle.limits.specs.Limits.{most_held}
use Rattle.document_parts.specs.Documents.{Profile, Root}
use Rattle.metadata.specs.File.{Bytes, File}
use Rattle.metadata.specs.FileViews.{root_file}
use Rattle.document_parts.specs.Views.{profile_view}
use Rattle.metadata.specs.declared.file.File.{File as KeptFile}
use Rattle.document_parts.specs.declared.documents.Root.{Root as KeptRoot}
use Rattle.trust_rules.specs.Contents.{root_rows, without_profiles}
use Rattle.trust_rules.specs.State.{Trusted, IsTrusted, kept_root, nothing_trusted}
use Rattle.state_parts.specs.Views.{last_kept, trusted_view}
use Rattle.state_parts.specs.declared.parts.Trusted.{Trusted as CodeTrusted}
use Rattle.trust_rules.specs.steps.Stored.{earlier_roots}
use Rattle.trusted_state.proofs.MetadataNames.{version_at}

-- version and bytes of each root, without its profile
abbrev pub numbered_rows : Trusted → ℕ → List (Profile × Bytes) → List (ℕ × Bytes)
numbered_rows T k bs = without_profiles (root_rows T k bs)

module _ (T : Trusted) (root : File Root) (known : T.root ≡ Some root) where
  rows_from : (bs : List (Profile × Bytes)) (b : Profile × Bytes) (k : ℕ) → length T.roots ≡ k + length bs + 1
      → numbered_rows T k (bs ++ b ∷ []) ≡ earlier_roots root.body.version bs ++ (root.body.version, b.1) ∷ []
  rows_from [] b k h = ap (λ (n : ℕ). (n, b.1) ∷ []) (version_at T root known k 0 h ∙ omega arith)
  rows_from (c ∷ bs) b k h =
      ap (λ (n : ℕ). (n, c.1) ∷ numbered_rows T (suc k) (bs ++ b ∷ [])) (version_at T root known k (suc (length bs)) h)
      ∙ ap (λ (l : List (ℕ × Bytes)). (root.body.version - suc (length bs), c.1) ∷ l) (rows_from bs b (suc k) (omega arith))

module _ (t : CodeTrusted) where
  pub rows_kept : (last : KeptFile KeptRoot) → t.root ≡ Some last
      → numbered_rows (trusted_view t) 0 (trusted_view t).roots
      ≡ earlier_roots last.body.version (map (λ b. (profile_view b.0, b.1.items)) t.earlier.items) ++ (last.body.version, last.source.bytes) ∷ []
  rows_kept last e =
      let bs : List (Profile × Bytes) = map (λ b. (profile_view b.0, b.1.items)) t.earlier.items in
      let are : (trusted_view t).roots ≡ bs ++ kept_root (root_file last) ∷ [] = ap (λ (o : Option (KeptFile KeptRoot)). bs ++ last_kept o) e in
      ap (λ (l : List (Profile × Bytes)). numbered_rows (trusted_view t) 0 l) are
      ∙ rows_from (trusted_view t) (root_file last) (ap (option_map root_file) e) bs (kept_root (root_file last)) 0
      (ap length are ∙ simp length-append (omega arith))

  pub rows_none : IsTrusted (trusted_view t) → t.root ≡ None → numbered_rows (trusted_view t) 0 (trusted_view t).roots ≡ []
  rows_none valid e =
      ap (λ (T : Trusted). numbered_rows T 0 T.roots)
      (subst (λ (o : Option (File Root)). IfNone o (trusted_view t ≡ nothing_trusted)) (ap (option_map root_file) e) valid.none)

  pub few_earlier : IsTrusted (trusted_view t) → length t.earlier.items ≤ most_held
  few_earlier valid =
      let few = simp (length-append, length-map) at valid.few_roots in
      omega (arith, few)

-- ---- one root after the other

pub one_more : (xs all : List (ℕ × Bytes)) (n version : ℕ) (b : Profile × Bytes) (bs : List (Profile × Bytes)) → n ≡ version - suc (length bs)
    → xs ++ earlier_roots version (b ∷ bs) ≡ all → (xs ++ (n, b.1) ∷ []) ++ earlier_roots version bs ≡ all
one_more xs all n version b bs e so =
    append_snoc xs (n, b.1) (earlier_roots version bs) ∙ (ap (λ (m : ℕ). xs ++ (m, b.1) ∷ earlier_roots version bs) e ∙ so)

pub all_there : (xs all : List (ℕ × Bytes)) (version : ℕ) (bs : List (Profile × Bytes)) → length bs ≡ 0 → xs ++ earlier_roots version bs ≡ all → xs ≡ all
all_there xs all version [] e so = sym (append-nil xs) ∙ so
all_there xs all version (b ∷ bs) e so = absurd (omega arith)
