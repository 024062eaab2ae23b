-- What the code's denials stand for.
use Rattle.std.specs.Prelude.{string_bytes}
use Rattle.denials.specs.Numbers as no
use Rattle.denials.specs.Orders as orders
use Rattle.denials.specs.Orders.{Plain}
use Rattle.denials.specs.declared.denial.Denial.{Denial}
use Rattle.denials.specs.declared.denial.Denial.TheVariants as denials

abbrev pub denial_view : Denial → orders.Denial
denial_view denials.TooLong = Plain no.too_long
denial_view denials.NotCanonical = Plain no.not_canonical
denial_view denials.WrongShape = Plain no.wrong_shape
denial_view denials.WrongType = Plain no.wrong_type
denial_view denials.BadKeyId = Plain no.bad_key_id
denial_view denials.NoRoot = Plain no.no_root
denial_view denials.RootExists = Plain no.root_exists
denial_view denials.RootVersion = Plain no.root_version
denial_view denials.OldThreshold = Plain no.old_threshold
denial_view denials.NewThreshold = Plain no.new_threshold
denial_view denials.RootExpired = Plain no.root_expired
denial_view denials.TimestampThreshold = Plain no.timestamp_threshold
denial_view denials.TimestampRollback = Plain no.timestamp_rollback
denial_view denials.NamedSnapshotRollback = Plain no.named_snapshot_rollback
denial_view denials.TimestampExpired = Plain no.timestamp_expired
denial_view denials.NoTimestamp = Plain no.no_timestamp
denial_view denials.SnapshotLength = Plain no.snapshot_length
denial_view denials.SnapshotHash = Plain no.snapshot_hash
denial_view denials.SnapshotThreshold = Plain no.snapshot_threshold
denial_view denials.SnapshotVersion = Plain no.snapshot_version
denial_view denials.SnapshotRollback = Plain no.snapshot_rollback
denial_view denials.RoleDropped = Plain no.role_dropped
denial_view denials.SnapshotExpired = Plain no.snapshot_expired
denial_view denials.NoSnapshot = Plain no.no_snapshot
denial_view denials.SnapshotStale = Plain no.snapshot_stale
denial_view denials.RoleUnlisted = Plain no.role_unlisted
denial_view denials.RoleLength = Plain no.role_length
denial_view denials.RoleHash = Plain no.role_hash
denial_view denials.RoleVersion = Plain no.role_version
denial_view denials.RoleThreshold = Plain no.role_threshold
denial_view denials.RoleExpired = Plain no.role_expired
denial_view denials.VersionTaken = Plain no.version_taken
denial_view (denials.RoleMissing role version) = orders.RoleMissing (string_bytes role) version
denial_view denials.TooManyRoles = Plain no.too_many_roles
denial_view denials.NotFound = Plain no.not_found
denial_view denials.BadPath = Plain no.bad_path
denial_view (denials.BlobMissing path digest length) = orders.BlobMissing path digest.0 length
denial_view denials.BlobLength = Plain no.blob_length
denial_view denials.DigestMismatch = Plain no.digest_mismatch
denial_view denials.Full = Plain no.full
denial_view denials.SupportDenied = Plain no.support_denied
denial_view denials.LayoutNested = Plain no.layout_nested
denial_view denials.LayoutShape = Plain no.layout_shape
denial_view denials.LayoutThreshold = Plain no.layout_threshold
denial_view denials.LayoutExpired = Plain no.layout_expired
denial_view denials.StepThreshold = Plain no.step_threshold
denial_view denials.LinksDisagree = Plain no.links_disagree
denial_view denials.Disallowed = Plain no.disallowed
denial_view denials.Required = Plain no.required
denial_view denials.ProductMismatch = Plain no.product_mismatch
denial_view denials.Incoherent = Plain no.incoherent
denial_view denials.LayoutRequired = Plain no.layout_required
denial_view denials.ProfileLowered = Plain no.profile_lowered
