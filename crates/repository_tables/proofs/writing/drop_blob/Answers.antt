use Rattle.std.proofs.Common.{◌≡◌, List, ℕ, map, subst, rules}
use Rattle.hex.specs.Hex.{encode_lower}
use Rattle.sqlite.specs.Held.{state}
use Rattle.table_rows.specs.Tables.{blob_row}
use Rattle.repository_tables.specs.steps.Writing.{IsInside, cells_of}
use Rattle.sql_tables.specs.Writing.{without_text}
use Rattle.repository_tables.proofs.Removals.{shrunk_blob}
use Rattle.repository_tables.proofs.writing.drop_blob.Goals as goal

pub returns-clause-wrote : goal.returns-clause-wrote
returns-clause-wrote g c clean t is =
    let new = state g.S.Store c.drop_digits.new.tx.conn.now in
    let digits : c.encode_to_slice.new.output ≡ encode_lower c.args.digest.now = search rules in
    shrunk_blob new t c.args.digest.now
    (subst (λ (d : List ℕ). IsInside new (record (cells_of t) { blob = without_text d (map blob_row t.blobs) })) digits (c.in_ok-drop_digits.ensures.wrote clean (cells_of t) is))
