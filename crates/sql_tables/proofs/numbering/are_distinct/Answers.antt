use Rattle.std.proofs.Common.{◌∙◌, sym}
use Rattle.sql_tables.proofs.numbering.are_distinct.Goals as goal

pub returns : goal.returns
returns c up = (c.sort_unstable.new.self, c.sort_unstable.ensures.permutation, sym c.do_rise.ensures ∙ up)
