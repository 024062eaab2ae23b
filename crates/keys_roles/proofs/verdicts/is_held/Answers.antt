use Rattle.std.proofs.Common.{sym}
use Rattle.keys_roles.specs.Views.{key_view, verdict_view, verdict_views}
use Rattle.keys_roles.proofs.Knowing.{found_known, none_known}
use Rattle.keys_roles.proofs.verdicts.is_held.Goals as goal

pub returns-in-Some : goal.returns-in-Some
returns-in-Some c = sym (found_known (verdict_views c.args.verdicts.now) (c.args.place, key_view c.args.key.now) (verdict_view c.in-Some.field-0.now) (sym c.in-Some.ensures))

pub returns-in-None : goal.returns-in-None
returns-in-None c = sym (none_known (verdict_views c.args.verdicts.now) (c.args.place, key_view c.args.key.now) (sym c.in-None.ensures))
