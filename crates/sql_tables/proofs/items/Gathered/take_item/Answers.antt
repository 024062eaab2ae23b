use Rattle.std.proofs.Common.{◌++◌, [], ◌∷◌, map, sym, subst, subst₂}
use Rattle.sql_tables.specs.Loading.{HasGathered, IsPlace}
use Rattle.sql_tables.proofs.Gathering.{has_spoiled, has_ill, has_behind, has_same, has_neither}
use Rattle.sql_tables.proofs.ListLemmas.{mapped_last}
use Rattle.sql_tables.proofs.items.Gathered.take_item.Goals as goal

pub returns-then-self : goal.returns-then-self
returns-then-self g c rows row read was =
    let t = g.T.Item in
    let laws = g.met.T.Item in
    has_spoiled t.key_cmp laws.total laws.exact t.Reads t.Fits rows (map t.shows c.args.self.now.items.items) row c.args.self.now.is_spoiled c.if-self.true was

pub returns-in_default : goal.returns-in_default
returns-in_default g c rows row read was =
    let t = g.T.Item in
    let laws = g.met.T.Item in
    has_ill t.key_cmp laws.total laws.exact t.Reads t.Fits rows (map t.shows c.args.self.now.items.items) row (rw c.in_default.is at read)

pub returns-in_ok-push-in-Behind : goal.returns-in_ok-push-in-Behind
returns-in_ok-push-in-Behind g c rows row read was =
    let t = g.T.Item in
    let laws = g.met.T.Item in
    let items = c.args.self.now.items.items in
    let x = t.shows c.in-Some.item in
    let it = rw c.in-Some.is at read in
    let place = subst₂ (λ vs p. IsPlace t.key_cmp (map t.shows vs) x p) c.as_slice.ensures.value c.in-Behind.is c.place_of.ensures in
    subst (λ zs. HasGathered t.key_cmp t.Reads t.Fits (rows ++ row ∷ []) zs c.args.self.now.is_spoiled) (sym (mapped_last t.shows c.push.new.self.items items c.in-Some.item c.in_ok-push-in-Behind.ensures.items))
    (has_behind t.key_cmp laws.total laws.exact t.Reads t.Fits rows (map t.shows items) row x it.0 it.1 c.args.self.now.is_spoiled c.if-self.false was place)

pub returns-in-Same : goal.returns-in-Same
returns-in-Same g c rows row read was =
    let t = g.T.Item in
    let laws = g.met.T.Item in
    let items = c.args.self.now.items.items in
    let x = t.shows c.in-Some.item in
    let it = rw c.in-Some.is at read in
    let place = subst₂ (λ vs p. IsPlace t.key_cmp (map t.shows vs) x p) c.as_slice.ensures.value c.in-Same.is c.place_of.ensures in
    has_same t.key_cmp laws.total laws.exact t.Reads t.Fits rows (map t.shows items) row x it.0 it.1 c.args.self.now.is_spoiled c.if-self.false was place

pub returns-in-Neither : goal.returns-in-Neither
returns-in-Neither g c rows row read was =
    let t = g.T.Item in
    let laws = g.met.T.Item in
    let items = c.args.self.now.items.items in
    let x = t.shows c.in-Some.item in
    let it = rw c.in-Some.is at read in
    let place = subst₂ (λ vs p. IsPlace t.key_cmp (map t.shows vs) x p) c.as_slice.ensures.value c.in-Neither.is c.place_of.ensures in
    has_neither t.key_cmp laws.total laws.exact t.Reads t.Fits rows (map t.shows items) row x it.0 it.1 c.args.self.now.is_spoiled c.if-self.false was place
