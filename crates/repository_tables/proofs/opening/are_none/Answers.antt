use Rattle.table_rows.proofs.ItemLemmas.{read_some}
use Rattle.repository_tables.proofs.opening.are_none.Goals as goal

pub returns-else-is_empty-clause-no : goal.returns-else-is_empty-clause-no
returns-else-is_empty-clause-no c off t is none = c.is_empty.ensures.other off t.blobs (read_some c.args.rows.now.0 c.args.rows.now.1.items t is none).0
