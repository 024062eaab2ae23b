use Rattle.std.proofs.Common.{◌≡◌, map}
use Rattle.document_parts.specs.Views.{delegation_view}
use Rattle.metadata.specs.steps.Spelled.{spelled_list}
use Rattle.metadata.proofs.delegations.name_roles.Given as goal

abbrev pub invariant-loop-role : goal.invariant-loop-role
invariant-loop-role l = map delegation_view l.roles.items ≡ spelled_list l.yielded
