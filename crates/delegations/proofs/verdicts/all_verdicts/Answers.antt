use Rattle.std.proofs.Common.{◌≡◌, ◌+◌, ◌++◌, ◌∙◌, List, [], ◌∷◌, None, codes, length, map, refl, sym, ap, subst, arith, string_bytes}
use Rattle.std.proofs.lemmas.List.{length-map}
use Rattle.keys_roles.specs.Views.{verdict_view}
use Rattle.metadata.specs.File.{Name, Names}
use Rattle.document_parts.specs.Sorted.{AreInOrder}
use Rattle.document_parts.specs.Views.{meta_view}
use Rattle.document_parts.specs.declared.documents.Meta.{Meta}
use Rattle.delegations.specs.Search.{doc}
use Rattle.delegations.specs.Verdicts.{Table, verdict_count}
use Rattle.delegations.specs.Views.{known_row, shelf_view, table_view}
use Rattle.delegations.specs.declared.verdicts.RowVerdicts.{RowVerdicts}
use Rattle.delegations.specs.steps.Gathering.{AreGathered, IsRow}
use Rattle.delegations.proofs.FoundOut.{of_none, of_some, rows_more}
use Rattle.delegations.proofs.Gathered.{count_more, listed_names, names_distinct, no_row, no_rows, with_row}
use Rattle.delegations.proofs.Holding.{all_listed, all_of_rows, all_true, complete, too_many}
use Rattle.delegations.proofs.verdicts.all_verdicts.Goals as goal

abbrev names : List (Name × Meta) → Names
names es = map (λ e. e.0) es

none_left : {A : Type 0} (xs : List A) → length xs ≡ 0 → xs ≡ []
none_left [] h = refl
none_left (x ∷ xs) h = absurd (omega (arith, h))

-- the names that are left, the first of them apart
first_name : (rest : List (Name × Meta)) (e : Name × Meta) (later : List (Name × Meta)) (role : Name) → rest ≡ e ∷ later → role ≡ e.0 → names rest ≡ role ∷ names later
first_name rest e later role at is = ap names at ∙ ap (λ (n : Name). n ∷ names later) (sym is)

pub roles-init : goal.roles-init
roles-init c =
    let V = shelf_view c.args.shelf.now in
    let rows : List (Name × Meta) = c.args.shelf.now.snapshot.now.meta.items in
    let slice : c.as_slice-rest.result.now ≡ rows = c.as_slice-rest.ensures.value in
    let order : AreInOrder (map (λ e. e.0 ++ codes ".json") rows) = c.args.shelf.now.snapshot.now.in_order in
    let start : AreGathered V (names rows) [] = no_rows V (names rows) (names_distinct rows order) (listed_names meta_view rows) in
    let empty : table_view c.new-rows.result.items ≡ [] = ap table_view c.new-rows.ensures.items in
    record {
      gathered = subst (λ (T : Table). AreGathered V (names c.as_slice-rest.result.now) T) (sym empty) (subst (λ (es : List (Name × Meta)). AreGathered V (names es) []) (sym slice) start);
      room = ap (λ (T : Table). 2048 + verdict_count T) empty;
    }

pub returns-then-count-room-clause-sound : goal.returns-then-count-room-clause-sound
returns-then-count-room-clause-sound c = all_true (shelf_view c.args.shelf.now) (table_view c.roles.rows.items) c.roles.invariant.gathered.rows

pub returns-then-count-room-clause-rows : goal.returns-then-count-room-clause-rows
returns-then-count-room-clause-rows c = all_of_rows (shelf_view c.args.shelf.now) (table_view c.roles.rows.items) c.roles.invariant.gathered.rows

pub returns-then-count-room-clause-listed : goal.returns-then-count-room-clause-listed
returns-then-count-room-clause-listed c = all_listed (shelf_view c.args.shelf.now) (table_view c.roles.rows.items) c.roles.invariant.gathered.rows

pub returns-then-count-room-clause-complete : goal.returns-then-count-room-clause-complete
returns-then-count-room-clause-complete c =
    let V = shelf_view c.args.shelf.now in
    let T : Table = table_view c.roles.rows.items in
    let row : RowVerdicts = c.in-Some-2.row in
    let later : Names = names c.in-Some.later.now in
    let left : names c.roles.rest.now ≡ c.as_str.result.now ∷ later = first_name c.roles.rest.now c.in-Some.entry.now c.in-Some.later.now c.as_str.result.now c.in-Some.ensures.cases.0 c.as_str.ensures.value in
    let gathered : AreGathered V (c.as_str.result.now ∷ later) T = subst (λ (ns : Names). AreGathered V ns T) left c.roles.invariant.gathered in
    let is : IsRow V (known_row row) = of_some (λ r. IsRow V (known_row r)) c.in_ok-row.field-0 row c.in-Some-2.is c.in_ok-row.ensures.row in
    let named : string_bytes row.role ≡ c.as_str.result.now = of_some (λ r. string_bytes r.role ≡ c.as_str.result.now) c.in_ok-row.field-0 row c.in-Some-2.is c.in_ok-row.ensures.named in
    let many : length (known_row row).1 ≡ length row.verdicts.items = length-map row.verdicts.items verdict_view in
    let count = c.len-count.ensures in
    let over = c.if-count-room.true in
    let room = c.roles.invariant.room in
    too_many V c.as_str.result.now later T T (known_row row) is named gathered (omega (arith, many, count, over, room))

pub roles-preserved-in_ok-push : goal.roles-preserved-in_ok-push
roles-preserved-in_ok-push c =
    let V = shelf_view c.args.shelf.now in
    let T : Table = table_view c.roles.rows.items in
    let row : RowVerdicts = c.in-Some-2.row in
    let later : Names = names c.in-Some.later.now in
    let left : names c.roles.rest.now ≡ c.as_str.result.now ∷ later = first_name c.roles.rest.now c.in-Some.entry.now c.in-Some.later.now c.as_str.result.now c.in-Some.ensures.cases.0 c.as_str.ensures.value in
    let gathered : AreGathered V (c.as_str.result.now ∷ later) T = subst (λ (ns : Names). AreGathered V ns T) left c.roles.invariant.gathered in
    let is : IsRow V (known_row row) = of_some (λ r. IsRow V (known_row r)) c.in_ok-row.field-0 row c.in-Some-2.is c.in_ok-row.ensures.row in
    let named : string_bytes row.role ≡ c.as_str.result.now = of_some (λ r. string_bytes r.role ≡ c.as_str.result.now) c.in_ok-row.field-0 row c.in-Some-2.is c.in_ok-row.ensures.named in
    let new : table_view c.push.new.self.items ≡ T ++ known_row row ∷ [] = ap table_view c.in_ok-push.ensures.items ∙ rows_more c.roles.rows.items row in
    let many : length (known_row row).1 ≡ length row.verdicts.items = length-map row.verdicts.items verdict_view in
    let count = c.len-count.ensures in
    let within = c.if-count-room.false in
    let room = c.roles.invariant.room in
    let more = count_more T (known_row row) in
    let sum : verdict_count (table_view c.push.new.self.items) ≡ verdict_count (T ++ known_row row ∷ []) = ap verdict_count new in
    record {
      gathered = subst (λ (U : Table). AreGathered V later U) (sym new) (with_row V c.as_str.result.now later T (known_row row) is named gathered);
      room = omega (arith, many, count, within, room, more, sum);
    }

pub roles-preserved : goal.roles-preserved
roles-preserved c =
    let V = shelf_view c.args.shelf.now in
    let T : Table = table_view c.roles.rows.items in
    let later : Names = names c.in-Some.later.now in
    let left : names c.roles.rest.now ≡ c.as_str.result.now ∷ later = first_name c.roles.rest.now c.in-Some.entry.now c.in-Some.later.now c.as_str.result.now c.in-Some.ensures.cases.0 c.as_str.ensures.value in
    let gathered : AreGathered V (c.as_str.result.now ∷ later) T = subst (λ (ns : Names). AreGathered V ns T) left c.roles.invariant.gathered in
    record {
      gathered = no_row V c.as_str.result.now later T (of_none (doc V c.as_str.result.now ≡ None) c.in_ok-row.field-0 c.in_default-2.is c.in_ok-row.ensures.none) gathered;
      room = c.roles.invariant.room;
    }

pub returns-clause-sound : goal.returns-clause-sound
returns-clause-sound c = all_true (shelf_view c.args.shelf.now) (table_view c.roles.rows.items) c.roles.invariant.gathered.rows

pub returns-clause-rows : goal.returns-clause-rows
returns-clause-rows c = all_of_rows (shelf_view c.args.shelf.now) (table_view c.roles.rows.items) c.roles.invariant.gathered.rows

pub returns-clause-listed : goal.returns-clause-listed
returns-clause-listed c = all_listed (shelf_view c.args.shelf.now) (table_view c.roles.rows.items) c.roles.invariant.gathered.rows

pub returns-clause-complete : goal.returns-clause-complete
returns-clause-complete c =
    let V = shelf_view c.args.shelf.now in
    let T : Table = table_view c.roles.rows.items in
    let none : names c.roles.rest.now ≡ [] = ap names (none_left c.roles.rest.now c.in_default.ensures.cases) in
    complete V T (subst (λ (ns : Names). AreGathered V ns T) none c.roles.invariant.gathered)
