-- A whole call over an honest source: an update whose denial is disregarded, and then a fetch, or the fault of the update.
use Rattle.std.proofs.Common.{◌≡◌, ℕ, [], Result, Ok, Err, refl}
use Rattle.std.specs.Prelude.{IfOk, None}
use Rattle.path_patterns.specs.Grammar.{IsTargetPath}
use Rattle.metadata.specs.File.{Bytes}
use Rattle.trust_rules.proofs.ShapedOnce.{Shapes}
use Rattle.trust_rules.specs.State.{IsState, State}
use Rattle.trust_rules.specs.Grants.{grants}
use Rattle.fetch.specs.Source.{Gives}
use Rattle.store.specs.Standing.{IsClean, Standing}
use Rattle.client.specs.Agreement as agreement
use Rattle.client.specs.Agreement.{Brings, FetchesFrom}
use Rattle.client.specs.Answering.{IsHonest}
use Rattle.client.specs.Changes.{Changes}
use Rattle.client.specs.Session.{Fetches}
use Rattle.client.specs.Views.{Fault}
use Rattle.client.proofs.ClientAgreeing.{client_agrees}
use Rattle.client.proofs.FilesRun.{files_run}
use Rattle.client.proofs.OwnDenials.{own_denial, unbroken}
use Rattle.client.specs.steps.Laws.{GrantLaws, NewLaws, RootLaws, StepLaws}
use Rattle.client.proofs.Runs.{fetch-granted}

module _ (roots_law : RootLaws) (news : NewLaws) (grant : GrantLaws) (step : StepLaws) (shapes : Shapes) (S : State) (sure : IsState S) (path : Bytes) (is_path : IsTargetPath path) (now : ℕ)
    {Src : Type 0} (from : Gives Src) (Is : Src → Type 0) (honest : IsHonest from Is S now) where
  of_bytes : (r : Result Bytes Fault) (D : State) → ((b : Bytes) → r ≡ Ok b → grants D path None now (Ok b)) → IfOk r (λ b. grants D path None now (Ok b))
  of_bytes (Ok b) D h = h b refl
  of_bytes (Err fault) D h = tt

  pub fetched_from : (A B E : Standing) (s t u : Src) (r : Result Bytes Fault) → Is s → Changes A B (λ C D. Brings from now s C t D (Ok tt))
      → Changes B E (λ C D. Fetches (IsClean E) from now path [] t C u D r) → Changes A E (λ C D. FetchesFrom (IsClean E) S C D path now r)
  fetched_from A B E s t u r is h k = record {
    moves = λ C at.
        let (D, to, b) = h.moves C at in
        let (F, there, f) = k.moves D to in (
          F,
          there,
          record {
            files = files_run grant.granted from Is S now honest (IsClean E) path s u C F r is (agreement.then b f);
            unbroken = unbroken grant.granted from Is S now honest (IsClean E) path s u C F r is (agreement.then b f);
            granted = λ trust. of_bytes r F (λ b e. fetch-granted (IsClean E) from now trust path [] t u D F r b f e);
            own = λ trust. own_denial grant.granted from Is S now honest (IsClean E) trust path s u C F r is (agreement.then b f);
            agrees = λ trust coherent behind. client_agrees roots_law news grant step shapes (IsClean E) Src from Is C S F path now s u r trust at.state.valid sure coherent is_path behind honest is (agreement.then b f);
          },
        );
    clean = λ clean. h.clean (k.clean clean);
  }

  pub stopped_from : (A B : Standing) (s t : Src) (fault : Fault) → Is s → Changes A B (λ C D. Brings from now s C t D (Err fault)) → Changes A B (λ C D. FetchesFrom (IsClean B) S C D path now (Err fault))
  stopped_from A B s t fault is h = record {
    moves = λ C at.
        let (D, to, b) = h.moves C at in (
          D,
          to,
          record {
            files = files_run grant.granted from Is S now honest (IsClean B) path s t C D (Err fault) is (agreement.fails b);
            unbroken = unbroken grant.granted from Is S now honest (IsClean B) path s t C D (Err fault) is (agreement.fails b);
            granted = λ trust. tt;
            own = λ trust. own_denial grant.granted from Is S now honest (IsClean B) trust path s t C D (Err fault) is (agreement.fails b);
            agrees = λ trust coherent behind. client_agrees roots_law news grant step shapes (IsClean B) Src from Is C S D path now s t (Err fault) trust at.state.valid sure coherent is_path behind honest is (agreement.fails b);
          },
        );
    clean = h.clean;
  }
