use Rattle.store.proofs.FirstProfiles.{first_root, named_before}
use Rattle.store.proofs.laws.migration_keeps_answers.Goals as goal

pub returns-clause-targets : goal.returns-clause-targets
returns-clause-targets c trees S valid holds = c.first_profile_as_before.ensures.targets S valid (first_root S valid trees holds)

pub returns-clause-roots : goal.returns-clause-roots
returns-clause-roots c trees S valid holds n few = c.names_find.ensures.roots S.trusted n valid.trusted few

pub returns-clause-metadata : goal.returns-clause-metadata
returns-clause-metadata c trees S valid holds name = named_before S name
