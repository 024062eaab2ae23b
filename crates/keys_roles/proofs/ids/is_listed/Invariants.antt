use Rattle.std.proofs.Common.{◌≡◌, length}
use Rattle.std.specs.List.{list_any}
use Rattle.std.specs.Str.{bytes_eq}
use Rattle.keys_roles.specs.steps.Counting.{IsIn}
use Rattle.keys_roles.specs.Views.{id_text, ids_view}
use Rattle.keys_roles.proofs.ids.is_listed.Given as goal

abbrev pub invariant-ids : goal.invariant-ids
invariant-ids l = record {
  text : list_any (λ own. bytes_eq own (id_text l.id)) (ids_view l.fn.ids) ≡ list_any (λ own. bytes_eq own (id_text l.id)) (ids_view l.rest);
  ahead : IsIn (ids_view l.fn.ids) (id_text l.id) → IsIn (ids_view l.rest) (id_text l.id);
  back : IsIn (ids_view l.rest) (id_text l.id) → IsIn (ids_view l.fn.ids) (id_text l.id);
}

abbrev pub decreases-ids : goal.decreases-ids
decreases-ids l = length l.rest
