-- What a state knows of the signatures that its searches may meet.
use Rattle.std.specs.Prelude.{◌≡◌, ℕ, Option, Some, Result, Ok, Err, IfSome}
use Rattle.document_parts.specs.Documents.{Root, Snapshot}
use Rattle.metadata.specs.File.{Bytes, File}
use Rattle.delegations.specs.Rows.{Rows}
use Rattle.delegations.specs.Search.{shelf_of}
use Rattle.delegations.specs.Verdicts.{Table, AreFew, AreTrue, AreOfRows, IsComplete, Costs}
use Rattle.trust_rules.specs.State.{Trusted, State}
use Rattle.trust_rules.specs.Effects.{brought}
use Rattle.state_parts.specs.Views.{effects_view}
use Rattle.trusted_state.specs.declared.outcome.Outcome.{Outcome}
use Rattle.trusted_state.specs.declared.outcome.Outcome.TheVariants as outcomes
use Rattle.trusted_state.specs.declared.outcome.Batched.{Batched}
use Rattle.trusted_state.specs.declared.refusal.Refusal.{Refusal}
use Rattle.trusted_state.specs.declared.refusal.BatchRefusal.{BatchRefusal}

-- each verdict is the truth over a row of the shelf, and each wanted pair under the root and the snapshot has one, where these are few
pub record IsKnown (T : Trusted) (table : Table) : Type 0 where
  pub sound : AreTrue T.shelf table
  pub rows : AreOfRows T.shelf table
  pub complete : IfSome T.root (λ root. IfSome T.snapshot (λ snap. IsComplete (shelf_of root snap T.shelf) table))

-- under the root and the snapshot, where there are both, the wanted pairs are no more than a table holds
abbrev pub WantsFew : Trusted → Type 0
WantsFew T = IfSome T.root (λ root. IfSome T.snapshot (λ snap. AreFew (shelf_of root snap T.shelf)))

-- changes of what is trusted carry what is known after them
abbrev pub CarriesVerdicts : Trusted → Result Outcome Refusal → Type 0
CarriesVerdicts T (Ok (outcomes.Changed e)) = IsKnown (brought T (effects_view e)) e.verdicts
CarriesVerdicts T (Ok outcomes.Same) = Unit {0}
CarriesVerdicts T (Err refusal) = Unit {0}

abbrev pub BatchCarriesVerdicts : Trusted → Result Batched BatchRefusal → Type 0
BatchCarriesVerdicts T (Ok b) = IsKnown (brought T (effects_view b.effects)) b.effects.verdicts
BatchCarriesVerdicts T (Err refusal) = Unit {0}

abbrev pub CarriesKnown : State → Result Outcome Refusal → Type 0
CarriesKnown S r = CarriesVerdicts S.trusted r

abbrev pub BatchCarriesKnown : State → Result Batched BatchRefusal → Type 0
BatchCarriesKnown S r = BatchCarriesVerdicts S.trusted r

-- how many signatures a request for a target checks: where there are a root and a snapshot, at most as many as its search meets of
-- which nothing is known
abbrev pub ChecksFew : Option (File Root) → Option (File Snapshot) → Rows → Table → Bytes → ℕ → ℕ → Type 0
ChecksFew (Some root) (Some snap) shelf table path now count = Costs (shelf_of root snap shelf) table path now count
ChecksFew _ _ shelf table path now count = count ≡ 0
