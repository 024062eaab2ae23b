-- What the code's shelf and answers stand for.
use Rattle.std.specs.Prelude.{false, map, List, Result, Ok, Err, string_bytes}
use Rattle.keys_roles.specs.Verdicts as known
use Rattle.keys_roles.specs.Views as keys
use Rattle.keys_roles.specs.Views.{rule_view, verdict_views}
use Rattle.denials.specs.Numbers as no
use Rattle.denials.specs.Orders.{Denial, Plain, RoleMissing, Denied, Judged}
use Rattle.document_parts.specs.Views.{snapshot_view, listing_view}
use Rattle.delegations.specs.Delegation as graph
use Rattle.delegations.specs.Search as plain
use Rattle.delegations.specs.Search.{top_name}
use Rattle.delegations.specs.Rows as shelves
use Rattle.delegations.specs.Verdicts as verdicts
pub use Rattle.delegations.specs.RowViews.{row_views}
use Rattle.delegations.specs.declared.rows.Rows.{Rows}
use Rattle.delegations.specs.declared.shelf.Shelf.{Shelf}
use Rattle.delegations.specs.declared.shelf.Edge.{Edge}
use Rattle.delegations.specs.declared.shelf.Found.{Found}
use Rattle.delegations.specs.declared.shelf.SearchDenial.{SearchDenial}
use Rattle.delegations.specs.declared.shelf.SearchDenial.TheVariants as denials
use Rattle.delegations.specs.declared.verdicts.RowVerdicts.{RowVerdicts}

abbrev pub rows_view : Rows → shelves.Rows
rows_view r = shelves.with_rows (row_views r.held.now) (row_views r.added.now)

abbrev pub shelf_view : Shelf → plain.Shelf
shelf_view s = record {
  top = record { role = top_name; terminating = false; rule = rule_view s.rule.now; table = keys.table_view s.keys.now };
  listing = (snapshot_view s.snapshot.now).meta;
  rows = rows_view s.rows;
}

-- the rows that are held, without those that were put on the shelf later
abbrev pub held_rows : Shelf → shelves.Rows
held_rows s = row_views s.rows.held.now

abbrev pub edge_view : Edge → graph.Edge
edge_view e = record { role = e.role.now; terminating = e.terminating; rule = rule_view e.rule.now; table = keys.table_view e.keys.now }

abbrev pub found_view : Found → plain.Found
found_view f = record { role = f.role.now; listing = listing_view f.listing.now }

abbrev pub denial_view : SearchDenial → Denial
denial_view denials.RoleUnlisted = Plain no.role_unlisted
denial_view (denials.RoleMissing role version) = RoleMissing role.now version
denial_view denials.RoleLength = Plain no.role_length
denial_view denials.RoleHash = Plain no.role_hash
denial_view denials.RoleThreshold = Plain no.role_threshold
denial_view denials.RoleExpired = Plain no.role_expired
denial_view denials.TooManyRoles = Plain no.too_many_roles
denial_view denials.NotFound = Plain no.not_found

-- an answer as a judgement
abbrev pub answer_view : {A B : Type 0} → (A → B) → Result A SearchDenial → Judged B
answer_view view (Ok a) = Ok (view a)
answer_view view (Err d) = Err (Denied (denial_view d))

-- a table of verdicts
abbrev pub known_row : RowVerdicts → shelves.Place × List known.Verdict
known_row r = ((string_bytes r.role, r.version), verdict_views r.verdicts.items)

abbrev pub table_view : List RowVerdicts → verdicts.Table
table_view rows = map known_row rows
