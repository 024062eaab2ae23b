use Rattle.std.proofs.Common.{◌≡◌, ◌++◌, [], ◌∷◌, List, ℕ, map, subst, rules}
use Rattle.hex.specs.Hex.{encode_lower}
use Rattle.sqlite.specs.Held.{state}
use Rattle.sqlite.specs.declared.types.Value.TheVariants.{Text, Blob}
use Rattle.table_rows.specs.Tables.{blob_row}
use Rattle.repository_tables.specs.steps.Writing.{IsInside, cells_of}
use Rattle.repository_tables.proofs.Changes.{grown_blob}
use Rattle.repository_tables.proofs.writing.put_blob.Goals as goal

pub returns-clause-wrote : goal.returns-clause-wrote
returns-clause-wrote g c clean t is =
    let new = state g.S.Store c.add_blob.new.tx.conn.now in
    let digits : c.encode_to_slice.new.output ≡ encode_lower c.args.digest.now = search rules in
    grown_blob new t (c.args.digest.now, c.args.bytes.now)
    (subst (λ (d : List ℕ). IsInside new (record (cells_of t) { blob = map blob_row t.blobs ++ (Text d ∷ Blob c.args.bytes.now ∷ []) ∷ [] })) digits (c.in_ok-add_blob.ensures.wrote clean (cells_of t) is))
