use Rattle.std.proofs.Common.{◌≡◌, ◌++◌, length}
use Rattle.keys_roles.specs.Views.{rows_view}
use Rattle.document_parts.specs.Parts.{NamesAreIds, NamesAreHex}
use Rattle.document_parts.specs.steps.Tables.{spelled_rows}
use Rattle.document_parts.proofs.keys.name_rows.Given as goal

abbrev pub invariant-rows : goal.invariant-rows
invariant-rows l = record {
  same : rows_view l.entries.items ++ spelled_rows l.rest ≡ spelled_rows l.fn.rows;
  ids_ahead : NamesAreIds (spelled_rows l.fn.rows) → NamesAreIds (spelled_rows l.rest);
  ids_back : NamesAreIds (spelled_rows l.rest) → NamesAreIds (spelled_rows l.fn.rows);
  hex_back : NamesAreHex (spelled_rows l.rest) → NamesAreHex (spelled_rows l.fn.rows);
}

abbrev pub decreases-rows : goal.decreases-rows
decreases-rows l = length l.rest
