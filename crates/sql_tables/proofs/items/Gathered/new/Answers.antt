use Rattle.std.proofs.Common.{[], map, false, sym, subst}
use Rattle.sql_tables.specs.Loading.{HasGathered}
use Rattle.sql_tables.proofs.Gathering.{has_none}
use Rattle.sql_tables.proofs.items.Gathered.new.Goals as goal

pub returns : goal.returns
returns g c =
    let t = g.T.Item in
    let laws = g.met.T.Item in
    subst (λ vs. HasGathered t.key_cmp t.Reads t.Fits [] (map t.shows vs) false) (sym c.new.ensures.items) (has_none t.key_cmp laws.total laws.exact t.Reads t.Fits [] [])
