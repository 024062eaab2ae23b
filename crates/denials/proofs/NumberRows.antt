-- Each number of a denial has its name, and no two have one name.
use Rattle.std.proofs.Common.{◌≡◌, ◌≢◌, ℕ, zero, suc, ◌-◌, ◌<◌, ◌≤◌, List, [], ◌∷◌, length, refl, sym, ap, arith, Bool, true, not}
use Rattle.std.specs.Prelude.{codes, ◌&&◌, bytes_eq, slice_get, unwrap_or}
use Rattle.std.proofs.lemmas.Bool.{and_parts, both_ways, not-true}
use Rattle.std.proofs.lemmas.Slice.Eq.{bytes_eq-Decides}
use Rattle.denials.specs.Numbers as no
use Rattle.denials.specs.Orders.{number, RoleMissing, BlobMissing}

row_names : length no.names ≡ 53
row_names = refl

row_too_long : no.name_of no.too_long ≡ codes "TooLong"
row_too_long = refl

row_not_canonical : no.name_of no.not_canonical ≡ codes "NotCanonical"
row_not_canonical = refl

row_wrong_shape : no.name_of no.wrong_shape ≡ codes "WrongShape"
row_wrong_shape = refl

row_wrong_type : no.name_of no.wrong_type ≡ codes "WrongType"
row_wrong_type = refl

row_bad_key_id : no.name_of no.bad_key_id ≡ codes "BadKeyId"
row_bad_key_id = refl

row_no_root : no.name_of no.no_root ≡ codes "NoRoot"
row_no_root = refl

row_root_exists : no.name_of no.root_exists ≡ codes "RootExists"
row_root_exists = refl

row_root_version : no.name_of no.root_version ≡ codes "RootVersion"
row_root_version = refl

row_old_threshold : no.name_of no.old_threshold ≡ codes "OldThreshold"
row_old_threshold = refl

row_new_threshold : no.name_of no.new_threshold ≡ codes "NewThreshold"
row_new_threshold = refl

row_root_expired : no.name_of no.root_expired ≡ codes "RootExpired"
row_root_expired = refl

row_timestamp_threshold : no.name_of no.timestamp_threshold ≡ codes "TimestampThreshold"
row_timestamp_threshold = refl

row_timestamp_rollback : no.name_of no.timestamp_rollback ≡ codes "TimestampRollback"
row_timestamp_rollback = refl

row_named_snapshot_rollback : no.name_of no.named_snapshot_rollback ≡ codes "NamedSnapshotRollback"
row_named_snapshot_rollback = refl

row_timestamp_expired : no.name_of no.timestamp_expired ≡ codes "TimestampExpired"
row_timestamp_expired = refl

row_no_timestamp : no.name_of no.no_timestamp ≡ codes "NoTimestamp"
row_no_timestamp = refl

row_snapshot_length : no.name_of no.snapshot_length ≡ codes "SnapshotLength"
row_snapshot_length = refl

row_snapshot_hash : no.name_of no.snapshot_hash ≡ codes "SnapshotHash"
row_snapshot_hash = refl

row_snapshot_threshold : no.name_of no.snapshot_threshold ≡ codes "SnapshotThreshold"
row_snapshot_threshold = refl

row_snapshot_version : no.name_of no.snapshot_version ≡ codes "SnapshotVersion"
row_snapshot_version = refl

row_snapshot_rollback : no.name_of no.snapshot_rollback ≡ codes "SnapshotRollback"
row_snapshot_rollback = refl

row_role_dropped : no.name_of no.role_dropped ≡ codes "RoleDropped"
row_role_dropped = refl

row_snapshot_expired : no.name_of no.snapshot_expired ≡ codes "SnapshotExpired"
row_snapshot_expired = refl

row_no_snapshot : no.name_of no.no_snapshot ≡ codes "NoSnapshot"
row_no_snapshot = refl

row_snapshot_stale : no.name_of no.snapshot_stale ≡ codes "SnapshotStale"
row_snapshot_stale = refl

row_role_unlisted : no.name_of no.role_unlisted ≡ codes "RoleUnlisted"
row_role_unlisted = refl

row_role_length : no.name_of no.role_length ≡ codes "RoleLength"
row_role_length = refl

row_role_hash : no.name_of no.role_hash ≡ codes "RoleHash"
row_role_hash = refl

row_role_version : no.name_of no.role_version ≡ codes "RoleVersion"
row_role_version = refl

row_role_threshold : no.name_of no.role_threshold ≡ codes "RoleThreshold"
row_role_threshold = refl

row_role_expired : no.name_of no.role_expired ≡ codes "RoleExpired"
row_role_expired = refl

row_version_taken : no.name_of no.version_taken ≡ codes "VersionTaken"
row_version_taken = refl

row_role_missing : no.name_of no.role_missing ≡ codes "RoleMissing"
row_role_missing = refl

row_too_many_roles : no.name_of no.too_many_roles ≡ codes "TooManyRoles"
row_too_many_roles = refl

row_not_found : no.name_of no.not_found ≡ codes "NotFound"
row_not_found = refl

row_bad_path : no.name_of no.bad_path ≡ codes "BadPath"
row_bad_path = refl

row_blob_missing : no.name_of no.blob_missing ≡ codes "BlobMissing"
row_blob_missing = refl

row_blob_length : no.name_of no.blob_length ≡ codes "BlobLength"
row_blob_length = refl

row_digest_mismatch : no.name_of no.digest_mismatch ≡ codes "DigestMismatch"
row_digest_mismatch = refl

row_full : no.name_of no.full ≡ codes "Full"
row_full = refl

row_support_denied : no.name_of no.support_denied ≡ codes "SupportDenied"
row_support_denied = refl

row_layout_nested : no.name_of no.layout_nested ≡ codes "LayoutNested"
row_layout_nested = refl

row_layout_shape : no.name_of no.layout_shape ≡ codes "LayoutShape"
row_layout_shape = refl

row_layout_threshold : no.name_of no.layout_threshold ≡ codes "LayoutThreshold"
row_layout_threshold = refl

row_layout_expired : no.name_of no.layout_expired ≡ codes "LayoutExpired"
row_layout_expired = refl

row_step_threshold : no.name_of no.step_threshold ≡ codes "StepThreshold"
row_step_threshold = refl

row_links_disagree : no.name_of no.links_disagree ≡ codes "LinksDisagree"
row_links_disagree = refl

row_disallowed : no.name_of no.disallowed ≡ codes "Disallowed"
row_disallowed = refl

row_required : no.name_of no.required ≡ codes "Required"
row_required = refl

row_product_mismatch : no.name_of no.product_mismatch ≡ codes "ProductMismatch"
row_product_mismatch = refl

row_incoherent : no.name_of no.incoherent ≡ codes "Incoherent"
row_incoherent = refl

row_layout_required : no.name_of no.layout_required ≡ codes "LayoutRequired"
row_layout_required = refl

row_profile_lowered : no.name_of no.profile_lowered ≡ codes "ProfileLowered"
row_profile_lowered = refl

row_missing_role : (role : List ℕ) (version : ℕ) → number (RoleMissing role version) ≡ no.role_missing
row_missing_role role version = refl

row_missing_blob : (path digest : List ℕ) (len : ℕ) → number (BlobMissing path digest len) ≡ no.blob_missing
row_missing_blob path digest len = refl

-- ---- no two numbers have one name

abbrev Name : Type 0
Name = List ℕ

abbrev is_fresh : Name → List Name → Bool
is_fresh x [] = true
is_fresh x (y ∷ ys) = not (bytes_eq x y) && is_fresh x ys

abbrev are_fresh : List Name → Bool
are_fresh [] = true
are_fresh (x ∷ xs) = is_fresh x xs && are_fresh xs

abbrev at : List Name → ℕ → Name
at xs i = unwrap_or (slice_get xs i) []

fresh_at : (x : Name) (ys : List Name) (i : ℕ) → is_fresh x ys ≡ true → i < length ys → x ≢ at ys i
fresh_at x [] i h below e = omega arith
fresh_at x (y ∷ ys) zero h below e =
    both_ways (bytes_eq x y) (not-true (bytes_eq x y) (and_parts (not (bytes_eq x y)) (is_fresh x ys) h).0) ((bytes_eq-Decides x y).1 e)
fresh_at x (y ∷ ys) (suc i) h below e = fresh_at x ys i (and_parts (not (bytes_eq x y)) (is_fresh x ys) h).1 (omega arith) e

one_place : (xs : List Name) (i j : ℕ) → are_fresh xs ≡ true → i < length xs → j < length xs → at xs i ≡ at xs j → i ≡ j
one_place [] i j h below under e = absurd (omega arith)
one_place (x ∷ xs) zero zero h below under e = refl
one_place (x ∷ xs) zero (suc j) h below under e = absurd (fresh_at x xs j (and_parts (is_fresh x xs) (are_fresh xs) h).0 (omega arith) e)
one_place (x ∷ xs) (suc i) zero h below under e = absurd (fresh_at x xs i (and_parts (is_fresh x xs) (are_fresh xs) h).0 (omega arith) (sym e))
one_place (x ∷ xs) (suc i) (suc j) h below under e =
    ap suc (one_place xs i j (and_parts (is_fresh x xs) (are_fresh xs) h).1 (omega arith) (omega arith) e)

abbrev pub IsNumber : ℕ → Type 0
IsNumber n = (1 ≤ n) × (n ≤ length no.names)

pub one_number : (m n : ℕ) → IsNumber m → IsNumber n → no.name_of m ≡ no.name_of n → m ≡ n
one_number m n h k e =
    let same = one_place no.names (m - 1) (n - 1) refl (omega (arith, h.0, h.1)) (omega (arith, k.0, k.1)) e in
    omega (arith, h.0, k.0, same)
