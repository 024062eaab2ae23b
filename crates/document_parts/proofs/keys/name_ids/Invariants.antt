use Rattle.std.proofs.Common.{◌≡◌, ◌++◌, length}
use Rattle.std.specs.List.{AllByRecursion}
use Rattle.keys_roles.specs.Views.{ids_view}
use Rattle.path_patterns.specs.Grammar.{IsHex}
use Rattle.document_parts.specs.steps.Tables.{texts_view}
use Rattle.document_parts.proofs.keys.name_ids.Given as goal

abbrev pub invariant-ids : goal.invariant-ids
invariant-ids l = record {
  same : ids_view l.named.items ++ texts_view l.rest ≡ texts_view l.fn.ids;
  hex_ahead : AllByRecursion (IsHex 64) (texts_view l.fn.ids) → AllByRecursion (IsHex 64) (texts_view l.rest);
}

abbrev pub decreases-ids : goal.decreases-ids
decreases-ids l = length l.rest
