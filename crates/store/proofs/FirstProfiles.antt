-- The roots of tables of schema 1 are of the first profile, and its metadata is found under the names of its rows.
use Rattle.std.proofs.Common.{◌≡◌, ℕ, suc, List, [], ◌∷◌, ◌++◌, Option, Some, None, ap, codes, map, refl}
use Rattle.std.specs.Prelude.{IfSome, option_map}
use Rattle.std.specs.List.{AllByRecursion}
use Rattle.sqlite_trees.specs.Tree.{Trees}
use Rattle.document_parts.specs.Documents.{Profile, Root, Snapshot, Targets, Timestamp, first_profile, second_profile}
use Rattle.metadata.specs.File.{Bytes, File}
use Rattle.delegations.specs.Rows.{Place, Rows}
use Rattle.keys_roles.specs.Plain.{look_up}
use Rattle.path_patterns.specs.Names.{dotted}
use Rattle.trust_rules.specs.Before.{files_before, metadata_before, one_file_before}
use Rattle.trust_rules.specs.Contents.{numbered, profile_number, root_rows, shelf_rows, without_profiles}
use Rattle.trust_rules.specs.State.{IsHeldUnder, IsRootChain, IsState, State, Trusted, first, kept_root, metadata_files, metadata_of, one_file, root_files, root_version, then}
use Rattle.table_rows.specs.Tables.{HoldsFirst}
use Rattle.store.specs.StateRows.{rows_of}

-- these rows of roots have profile 1
abbrev AreFirst : List (ℕ × (ℕ × Bytes)) → Type 0
AreFirst = AllByRecursion (λ r. r.1.0 ≡ 1)

number_first : (p : Profile) → profile_number p ≡ 1 → p ≡ first_profile
number_first first_profile e = refl
number_first second_profile e = cc

last_first : (T : Trusted) (k : ℕ) (bs : List (Profile × Bytes)) (b : Profile × Bytes) → AreFirst (root_rows T k (bs ++ b ∷ [])) → profile_number b.0 ≡ 1
last_first T k [] b h = h.0
last_first T k (c ∷ cs) b h = last_first T (suc k) cs b h.1

chain_first : (T : Trusted) (bs : List (Profile × Bytes)) (root : File Root) → IsRootChain bs root → AreFirst (root_rows T 0 bs) → profile_number root.body.profile ≡ 1
chain_first T _ root (first read is meets) h = h.0
chain_first T _ root (then {bs} {old} {new} chain read follows) h = last_first T 0 bs (kept_root new) h

pub first_root : (S : State) → IsState S → (trees : Trees) → HoldsFirst trees (rows_of S) → IfSome S.trusted.root (λ root. root.body.profile ≡ first_profile)
first_root S valid trees holds = of S.trusted.root valid.trusted.held
  where
    of : (o : Option (File Root)) → IfSome o (IsHeldUnder S.trusted) → IfSome o (λ root. root.body.profile ≡ first_profile)
    of None h = tt
    of (Some root) h = number_first root.body.profile (chain_first S.trusted S.trusted.roots root h.chain holds.profiles)

-- ---- the metadata under its names

one_named : {A : Type 0} (o : Option (File A)) (version : A → ℕ) (name : ℕ → Bytes) → one_file o (λ a. name (version a)) ≡ one_file_before (option_map (numbered version) o) name
one_named None version name = refl
one_named (Some file) version name = refl

roots_named : (T : Trusted) (k : ℕ) (bs : List (Profile × Bytes)) → root_files T k bs ≡ map (λ (row : ℕ × Bytes). (dotted row.0 (codes "root"), row.1)) (without_profiles (root_rows T k bs))
roots_named T k [] = refl
roots_named T k (b ∷ bs) = ap (λ (files : List (Bytes × Bytes)). (dotted (root_version T k) (codes "root"), b.1) ∷ files) (roots_named T (suc k) bs)

shelf_named : (rows : Rows) → map {B = Bytes × Bytes} (λ (row : Place × File Targets). (dotted row.0.1 row.0.0, row.1.bytes)) rows ≡ map (λ (row : Place × Bytes). (dotted row.0.1 row.0.0, row.1)) (shelf_rows rows)
shelf_named [] = refl
shelf_named (row ∷ rows) = ap (λ (files : List (Bytes × Bytes)). (dotted row.0.1 row.0.0, row.1.bytes) ∷ files) (shelf_named rows)

joined : {A : Type 0} (a b c d a' b' c' d' : List A) → a ≡ a' → b ≡ b' → c ≡ c' → d ≡ d' → a ++ (b ++ (c ++ d)) ≡ a' ++ (b' ++ (c' ++ d'))
joined a b c d a' b' c' d' e f g h = cc

named : (S : State) → metadata_files S.trusted ≡ files_before (rows_of S)
named S =
    let T = S.trusted in
    joined _ _ _ _ _ _ _ _ (one_named T.timestamp (λ (t : Timestamp). t.version) (λ version. codes "timestamp.json")) (roots_named T 0 T.roots)
    (one_named T.snapshot (λ (s : Snapshot). s.version) (λ version. dotted version (codes "snapshot"))) (shelf_named T.shelf)

pub named_before : (S : State) (name : Bytes) → metadata_of S.trusted name ≡ metadata_before (rows_of S) name
named_before S name = ap (λ (files : List (Bytes × Bytes)). look_up files name) (named S)
