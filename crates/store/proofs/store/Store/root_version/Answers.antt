use Rattle.std.proofs.Common.{◌≡◌, ◌∙◌, subst, sym}
use Rattle.std.specs.Prelude.{option_map}
use Rattle.trust_rules.specs.Held.{Held}
use Rattle.store.proofs.store.Store.root_version.Goals as goal

pub returns : goal.returns
returns g c U is =
    subst (λ (H : Held). c.root_version.result ≡ option_map (λ root. root.body.version) H.trusted.root) (c.held.ensures ∙ sym is.held) c.root_version.ensures
