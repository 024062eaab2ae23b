-- One root of an update.
use Rattle.std.proofs.Common.{◌≡◌, ℕ, suc, ◌+◌, ◌-◌, ◌<◌, ◌≤◌, Bool, true, false, Option, Some, None, Result, Ok, Err, refl, sym, subst, ◌∙◌, arith}
use Rattle.std.specs.Prelude.{option_map}
use Rattle.document_parts.specs.Documents.{Root}
use Rattle.metadata.specs.File.{File}
use Rattle.denials.specs.Numbers as no
use Rattle.denials.specs.Orders as orders
use Rattle.trust_rules.specs.State.{State}
use Rattle.fetch.specs.Source.{Gives}
use Rattle.store.specs.Standing.{IsStateOf, Standing}
use Rattle.client.specs.Changes.{Changes}
use Rattle.client.specs.Session.{Takes, TakesRoots, max_version, enough, rootless, highest, newest, stops, further, unasked}
use Rattle.client.specs.Views.{Denied, Fault, OutOfMemory, ended, fault_view}
use Rattle.client.specs.Wanted.{wanted_root}
use Rattle.client.specs.declared.fault.ClientFault.{ClientFault}
use Rattle.client.specs.steps.Rounds.{RootTaken}
use Rattle.client.proofs.Composing.{becomes, follows, rests}

abbrev version_of : File Root → ℕ
version_of root = root.body.version

-- what is known of the version of the trusted root
abbrev Versions : Standing → Option ℕ → Type 0
Versions A v = (U : State) → IsStateOf A.kept U → v ≡ option_map version_of U.trusted.root

no-root : (o : Option (File Root)) → None ≡ option_map version_of o → o ≡ None
no-root None e = refl
no-root (Some root) e = absurd cc

the-root : (o : Option (File Root)) (v : ℕ) → Some v ≡ option_map version_of o → (root : File Root) × (o ≡ Some root) × (v ≡ root.body.version)
the-root None v e = absurd cc
the-root (Some root) v e = (root, refl, cc)

module _ {Src : Type 0} (gives : Gives Src) (now : ℕ) where
  pub without_root : (A : Standing) (v : Option ℕ) (s : Src) → Versions A v → v ≡ None
      → Changes A A (λ C D. (n : ℕ) → TakesRoots gives now (suc n) s C s D (Err (Denied (orders.Plain no.no_root))))
  without_root A v s versions is = rests A _ (λ S at n. rootless (no-root S.trusted.root (sym is ∙ versions S at.state)))

  pub at_the_highest : (A : Standing) (v : Option ℕ) (version : ℕ) (s : Src) → Versions A v → v ≡ Some version → version ≡ max_version
      → Changes A A (λ C D. (n : ℕ) → TakesRoots gives now (suc n) s C s D (Ok tt))
  at_the_highest A v version s versions is top =
      rests A _ (λ S at n. let (root, held, same) = the-root S.trusted.root version (sym is ∙ versions S at.state) in highest held (sym same ∙ top))

  pub root_taken : (A B : Standing) (v : Option ℕ) (version : ℕ) (s t : Src) (r : Result Bool ClientFault) → Versions A v → v ≡ Some version → version < max_version
      → Changes A B (λ C D. Takes gives now (wanted_root (version + 1)) s C t D (ended (λ b. b) r)) → RootTaken A B gives now s t r
  root_taken A B v version s t (Ok true) versions is below h = record {
    moves = λ S at.
        let (T, to, takes) = h.moves S at in
        let (root, held, same) = the-root S.trusted.root version (sym is ∙ versions S at.state) in
        (T, to, λ n u E r more. further held (subst (λ k. k < max_version) same below) (subst (λ k. Takes gives now (wanted_root (k + 1)) s S t T (Ok true)) same takes) more);
    clean = h.clean;
  }
  root_taken A B v version s t (Ok false) versions is below h = record {
    moves = λ S at.
        let (T, to, takes) = h.moves S at in
        let (root, held, same) = the-root S.trusted.root version (sym is ∙ versions S at.state) in
        (T, to, λ n. newest held (subst (λ k. k < max_version) same below) (subst (λ k. Takes gives now (wanted_root (k + 1)) s S t T (Ok false)) same takes));
    clean = h.clean;
  }
  root_taken A B v version s t (Err fault) versions is below h = record {
    moves = λ S at.
        let (T, to, takes) = h.moves S at in
        let (root, held, same) = the-root S.trusted.root version (sym is ∙ versions S at.state) in
        (T, to, λ n. stops held (subst (λ k. k < max_version) same below) (subst (λ k. Takes gives now (wanted_root (k + 1)) s S t T (Err (fault_view fault))) same takes));
    clean = h.clean;
  }

  -- where there was no memory for the name
  pub root_unasked : (A : Standing) (v : Option ℕ) (version : ℕ) (s : Src) → Versions A v → v ≡ Some version → version < max_version
      → Changes A A (λ C D. (n : ℕ) → TakesRoots gives now (suc n) s C s D (Err OutOfMemory))
  root_unasked A v version s versions is below =
      rests A _ (λ S at n. let (root, held, same) = the-root S.trusted.root version (sym is ∙ versions S at.state) in
      stops held (subst (λ k. k < max_version) same below) unasked)

-- ---- rounds of an update, of which 64 are made

module _ {Src : Type 0} (gives : Gives Src) (now : ℕ) where
  -- the round that ends it
  pub round_ends : (A B : Standing) (s t : Src) (r : Result (Unit {0}) Fault) (k : ℕ) → k < 64
      → Changes A B (λ C D. (n : ℕ) → TakesRoots gives now (suc n) s C t D r) → Changes A B (λ C D. TakesRoots gives now (64 - k) s C t D r)
  round_ends A B s t r k below h =
      let left : suc (64 - (k + 1)) ≡ 64 - k = omega (arith, below) in
      becomes _ _ h (λ C D f. subst (λ n. TakesRoots gives now n s C t D r) left (f (64 - (k + 1))))

  -- a round, and the rest
  pub round_goes : (A B E : Standing) (s t u : Src) (r : Result (Unit {0}) Fault) (k : ℕ) → k < 64
      → Changes A B (λ C D. (n : ℕ) (u : Src) (E : State) (r : Result (Unit {0}) Fault) → TakesRoots gives now n t D u E r → TakesRoots gives now (suc n) s C u E r)
      → Changes B E (λ C D. TakesRoots gives now (64 - (k + 1)) t C u D r) → Changes A E (λ C D. TakesRoots gives now (64 - k) s C u D r)
  round_goes A B E s t u r k below h rest =
      let left : suc (64 - (k + 1)) ≡ 64 - k = omega (arith, below) in
      follows _ _ _ h rest (λ C D F f more. subst (λ n. TakesRoots gives now n s C u F r) left (f (64 - (k + 1)) u F r more))

  -- all were made
  pub rounds_done : (A : Standing) (s : Src) (k : ℕ) → 64 ≤ k → Changes A A (λ C D. TakesRoots gives now (64 - k) s C s D (Ok tt))
  rounds_done A s k above =
      let none : 0 ≡ 64 - k = omega (arith, above) in
      rests A _ (λ S at. subst (λ n. TakesRoots gives now n s S s S (Ok tt)) none enough)
