-- Looking a metadata file up by its name.
use Rattle.std.proofs.Common.{◌≡◌, ℕ, suc, ◌+◌, ◌-◌, List, [], ◌∷◌, ◌++◌, map, length, Option, Some, None, refl, ap, ◌∙◌, true, false, arith, length-append}
use Rattle.path_patterns.specs.Names.{dotted}
use Rattle.std.specs.Prelude.{bytes_eq, codes, option_map}
use Rattle.keys_roles.specs.Plain.{look_up}
use Rattle.document_parts.specs.Documents.{Profile, Root}
use Rattle.metadata.specs.File.{Bytes, File}
use Rattle.metadata.specs.FileViews.{root_file}
use Rattle.document_parts.specs.Views.{profile_view}
use Rattle.metadata.specs.declared.file.File.{File as KeptFile}
use Rattle.document_parts.specs.declared.documents.Root.{Root as KeptRoot}
use Rattle.state_parts.specs.Views.{trusted_view, last_kept}
use Rattle.state_parts.specs.declared.parts.Trusted.{Trusted as CodeTrusted}
use Rattle.trust_rules.specs.State.{Trusted, kept_root, root_version, root_files, metadata_of}
use Rattle.trust_rules.specs.steps.NamedFiles.{earlier_files, shelf_files, timestamp_files, snapshot_files}
use Rattle.trust_rules.proofs.FoundNames.{found_first, found_later}

module _ (T : Trusted) (name : Bytes) where
  pub at_timestamp : (b : Bytes) → look_up (timestamp_files T.timestamp) name ≡ Some b → metadata_of T name ≡ Some b
  at_timestamp b h = found_first (timestamp_files T.timestamp) _ name b h

  pub past_timestamp : look_up (timestamp_files T.timestamp) name ≡ None
      → metadata_of T name ≡ look_up (root_files T 0 T.roots ++ (snapshot_files T.snapshot ++ shelf_files T.shelf)) name
  past_timestamp h = found_later (timestamp_files T.timestamp) _ name h

  pub at_root : (b : Bytes) → look_up (timestamp_files T.timestamp) name ≡ None → look_up (root_files T 0 T.roots) name ≡ Some b → metadata_of T name ≡ Some b
  at_root b h k = past_timestamp h ∙ found_first (root_files T 0 T.roots) _ name b k

  pub past_roots : look_up (timestamp_files T.timestamp) name ≡ None → look_up (root_files T 0 T.roots) name ≡ None
      → metadata_of T name ≡ look_up (snapshot_files T.snapshot ++ shelf_files T.shelf) name
  past_roots h k = past_timestamp h ∙ found_later (root_files T 0 T.roots) _ name k

  pub at_snapshot : (b : Bytes) → look_up (timestamp_files T.timestamp) name ≡ None → look_up (root_files T 0 T.roots) name ≡ None
      → look_up (snapshot_files T.snapshot) name ≡ Some b → metadata_of T name ≡ Some b
  at_snapshot b h k l = past_roots h k ∙ found_first (snapshot_files T.snapshot) _ name b l

  pub past_snapshot : look_up (timestamp_files T.timestamp) name ≡ None → look_up (root_files T 0 T.roots) name ≡ None
      → look_up (snapshot_files T.snapshot) name ≡ None → metadata_of T name ≡ look_up (shelf_files T.shelf) name
  past_snapshot h k l = past_roots h k ∙ found_later (snapshot_files T.snapshot) _ name l

module _ (T : Trusted) (root : File Root) (known : T.root ≡ Some root) where
  pub version_at : (k n : ℕ) → length T.roots ≡ k + n + 1 → root_version T k ≡ root.body.version - n
  version_at k n h = rw (known, h) (omega arith)

  files_from : (bs : List (Profile × Bytes)) (b : Profile × Bytes) (k : ℕ) → length T.roots ≡ k + length bs + 1
      → root_files T k (bs ++ b ∷ []) ≡ earlier_files root.body.version bs ++ (dotted root.body.version (codes "root"), b.1) ∷ []
  files_from [] b k h =
      ap (λ (n : ℕ). (dotted n (codes "root"), b.1) ∷ []) (version_at k 0 h ∙ omega arith)
  files_from (c ∷ bs) b k h =
      ap (λ (n : ℕ). (dotted n (codes "root"), c.1) ∷ root_files T (suc k) (bs ++ b ∷ [])) (version_at k (suc (length bs)) h)
      ∙ ap (λ (l : List (Bytes × Bytes)). (dotted (root.body.version - suc (length bs)) (codes "root"), c.1) ∷ l) (files_from bs b (suc k) (omega arith))

  pub roots_named : (bs : List (Profile × Bytes)) (b : Profile × Bytes) (name : Bytes) → T.roots ≡ bs ++ b ∷ []
      → look_up (root_files T 0 T.roots) name
      ≡ look_up (earlier_files root.body.version bs ++ (dotted root.body.version (codes "root"), b.1) ∷ []) name
  roots_named bs b name e =
      ap (λ (l : List (Profile × Bytes)). look_up (root_files T 0 l) name) e
      ∙ ap (λ (l : List (Bytes × Bytes)). look_up l name) (files_from bs b 0 (ap length e ∙ simp length-append (omega arith)))

pub one_found : (d b name : Bytes) → bytes_eq d name ≡ true → look_up ((d, b) ∷ []) name ≡ Some b
one_found d b name t = rw t refl

pub one_missed : (d b name : Bytes) → bytes_eq d name ≡ false → look_up ((d, b) ∷ []) name ≡ None
one_missed d b name f = rw f refl

-- the files of the roots that are kept, the last of them apart
pub roots_kept : (t : CodeTrusted) (last : KeptFile KeptRoot) (name : Bytes) → t.root ≡ Some last
    → look_up (root_files (trusted_view t) 0 (trusted_view t).roots) name
    ≡ look_up (earlier_files last.body.version (map (λ b. (profile_view b.0, b.1.items)) t.earlier.items)
    ++ (dotted last.body.version (codes "root"), last.source.bytes) ∷ []) name
roots_kept t last name e =
    roots_named (trusted_view t) (root_file last) (ap (option_map root_file) e) (map (λ b. (profile_view b.0, b.1.items)) t.earlier.items) (kept_root (root_file last)) name
    (ap (λ (o : Option (KeptFile KeptRoot)). map (λ b. (profile_view b.0, b.1.items)) t.earlier.items ++ last_kept o) e)

pub same_name : (S T : Trusted) (n m : Bytes) → S ≡ T → n ≡ m → metadata_of S n ≡ metadata_of T m
same_name S T n m e f = ap (λ (R : Trusted). metadata_of R n) e ∙ ap (λ (k : Bytes). metadata_of T k) f
