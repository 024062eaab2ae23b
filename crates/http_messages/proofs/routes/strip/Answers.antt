use Rattle.std.proofs.Common.{◌≡◌, ℕ, List, Option, Some, None, Bor, sym, ap, ◌∙◌, drop}
use Rattle.std.specs.Prelude.{option_map, MatchOption}
use Rattle.std.specs.Str.Pattern.{FindsTextPrefix, StripsPrefix}
use Rattle.http_messages.specs.RouteOf.{after}
use Rattle.http_messages.proofs.RouteLemmas.{after-prefix, no-prefix}
use Rattle.http_messages.proofs.routes.strip.Goals as goal

strips : (p t : List ℕ) (r : Option (Bor (List ℕ))) → MatchOption r (FindsTextPrefix p t None) (λ x. StripsPrefix (FindsTextPrefix p) t x.now)
    → option_map {U = List ℕ} (λ x. x.now) r ≡ after p t
strips p t None lacks = sym (no-prefix p t lacks)
strips p t (Some x) (n, found, is, len) = sym (ap (after p) found.1 ∙ after-prefix p (drop n t) ∙ ap Some (sym is))

pub returns : goal.returns
returns c = strips c.args.prefix.now c.args.text.now c.strip_prefix.result c.strip_prefix.ensures.cases
