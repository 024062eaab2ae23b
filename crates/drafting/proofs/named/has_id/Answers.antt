use Rattle.std.proofs.Common.{List, ◌↔◌, IsTrue, ap, sym, ◌∙◌, subst}
use Rattle.canonical_json.specs.Json.{Json}
use Rattle.canonical_json.specs.View.{view}
use Rattle.drafting.specs.Roots.{HasId}
use Rattle.drafting.proofs.Rows.{Row, object_view, shown}
use Rattle.drafting.proofs.named.has_id.Goals as goal

pub returns-in-Object : goal.returns-in-Object
returns-in-Object c =
    let seen = ap (λ (r : List Row). shown r) c.as_slice.ensures.value ∙ sym (object_view c.in-Object.members) ∙ ap view (sym c.in-Object.is) in
    subst (λ (v : Json). IsTrue c.some_has_id.result ↔ HasId v c.args.id.now) seen c.some_has_id.ensures
