-- How what stands at a place on the two sides is compared.
use Rattle.std.specs.Prelude.{◌≡◌, Option, Some}
use Rattle.canonical_json.specs.Json.{Json, object, array}
use Rattle.canonical_json.specs.View.{items_view, members_view}
use Rattle.value_changes.specs.declared.pairs.Pair.{Pair}
use Rattle.value_changes.specs.declared.pairs.Pair.TheVariants.{Objects, Arrays, Same, Changed}
use Rattle.value_changes.specs.Changes.{DifferAsWhole}

abbrev pub IsPair : Option Json → Option Json → Pair → Type 0
IsPair one other (Objects ms ns) = (one ≡ Some (object (members_view ms.now))) × (other ≡ Some (object (members_view ns.now)))
IsPair one other (Arrays vs ws) = (one ≡ Some (array (items_view vs.now))) × (other ≡ Some (array (items_view ws.now)))
IsPair one other Same = one ≡ other
IsPair one other Changed = DifferAsWhole one other
