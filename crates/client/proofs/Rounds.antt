-- One round of a fetch.
use Rattle.std.proofs.Common.{◌≡◌, ℕ, ◌<◌, Bool, true, false, [], ◌∷◌, ◌++◌, length, None, Result, Ok, Err, Vec, Global, refl, sym, subst, ◌∙◌, arith, length-append}
use Rattle.std.specs.Prelude.{IfOk, cond}
use Rattle.metadata.specs.File.{Bytes, Names, has_name}
use Rattle.denials.specs.Orders as orders
use Rattle.denials.specs.Views.{denial_view}
use Rattle.denials.specs.declared.denial.Denial.{Denial as Code}
use Rattle.trust_rules.specs.State.{State}
use Rattle.trust_rules.specs.Grants.{grants}
use Rattle.fetch.specs.Source.{Gives}
use Rattle.store.specs.Standing.{IsClean, Standing}
use Rattle.client.specs.Changes.{Changes}
use Rattle.client.specs.Session.{Fetches, IsKnown, IsUnmade, Takes, ends, granted, denied, again, enough, absent, fails, further, unanswered}
use Rattle.client.specs.Taken.{IsTaking, RunsOn}
use Rattle.client.specs.Views.{Fault, Denied, OutOfMemory, fetched}
use Rattle.client.specs.declared.fault.ClientFault.{ClientFault}
use Rattle.client.proofs.Runs.{fetch-granted, fetch-runs}
use Rattle.client.specs.Wanted.{Wanted, Misses}
use Rattle.client.specs.declared.fetching.Asked.{Asked}
use Rattle.client.specs.declared.fetching.Asked.TheVariants as asks
use Rattle.client.specs.steps.Asked.{IsAsked}
use Rattle.client.specs.steps.Rounds.{GoesOn}
use Rattle.client.proofs.Composing.{becomes, follows}

-- what was asked, when it was denied
abbrev pub Denies : Type 0 → Bytes → ℕ → orders.Denial → State → State → Type 0
Denies trusted path now d C D = (D ≡ C) × (IsKnown trusted C path now d → grants C path None now (Err (orders.Denied d)))

-- that something is missing no layout says
missing_known : (trusted : Type 0) (C : State) (path : Bytes) (now : ℕ) (d : orders.Denial) (w : Wanted) → Misses d w → IsKnown trusted C path now d
missing_known trusted C path now (orders.Plain n) w m by has = elim m [ ]
missing_known trusted C path now (orders.RoleMissing role version) w m by has = absurd (subst (λ (b : Bool). cond b ⊥ (Unit {0})) by tt)
missing_known trusted C path now (orders.BlobMissing text digest len) w m by has = absurd (subst (λ (b : Bool). cond b ⊥ (Unit {0})) by tt)

pub was_denied : (A B : Standing) (path : Bytes) (now : ℕ) (asked : Asked) (d : Code) → asked ≡ asks.Denied d
    → Changes A B (λ C D. (D ≡ C) × IsAsked (IsClean B) C path now asked) → Changes A B (Denies (IsClean B) path now (denial_view d))
was_denied A B path now asked d is h = subst (λ (a : Asked). Changes A B (λ C D. (D ≡ C) × IsAsked (IsClean B) C path now a)) is h

module _ {Src : Type 0} (gives : Gives Src) (now : ℕ) (path : Bytes) (names : Names) where
  pub was_granted : (A B : Standing) (s : Src) (asked : Asked) (bytes : Vec ℕ Global) → asked ≡ asks.Granted bytes
      → Changes A B (λ C D. (D ≡ C) × IsAsked (IsClean B) C path now asked) → Changes A B (λ C D. Fetches (IsClean B) gives now path names s C s D (Ok bytes.items))
  was_granted A B s asked bytes is h =
      becomes _ _ (subst (λ (a : Asked). Changes A B (λ C D. (D ≡ C) × IsAsked (IsClean B) C path now a)) is h)
      (λ C D k. subst (λ x. Fetches (IsClean B) gives now path names s C s x (Ok bytes.items)) (sym k.0) (ends (granted k.1)))

  pub was_unmade : (A B : Standing) (s : Src) (fault : Fault) → IsUnmade fault → Changes A B (λ C D. D ≡ C)
      → Changes A B (λ C D. Fetches (IsClean B) gives now path names s C s D (Err fault))
  was_unmade A B s fault is h = becomes _ _ h (λ C D k. subst (λ x. Fetches (IsClean B) gives now path names s C s x (Err fault)) (sym k) (ends (unanswered is)))

  -- nothing is missing
  pub ends_denied : (A B : Standing) (s : Src) (d : orders.Denial) → ((w : Wanted) → Misses d w → ⊥) → Changes A B (Denies (IsClean B) path now d)
      → Changes A B (λ C D. Fetches (IsClean B) gives now path names s C s D (Err (Denied d)))
  ends_denied A B s d none h = becomes _ _ h (λ C D k. subst (λ x. Fetches (IsClean B) gives now path names s C s x (Err (Denied d))) (sym k.0) (ends (denied k.1 none)))

  -- no memory for the name
  pub ends_wanting : (A B : Standing) (s : Src) (d : orders.Denial) → Changes A B (Denies (IsClean B) path now d)
      → Changes A B (λ C D. Fetches (IsClean B) gives now path names s C s D (Err OutOfMemory))
  ends_wanting A B s d h = becomes _ _ h (λ C D k. subst (λ x. Fetches (IsClean B) gives now path names s C s x (Err OutOfMemory)) (sym k.0) (ends (unanswered tt)))

  -- 194 names were fetched
  pub ends_enough : (A B : Standing) (s : Src) (d : orders.Denial) (w : Wanted) → Misses d w → length names ≡ 194 → Changes A B (Denies (IsClean B) path now d)
      → Changes A B (λ C D. Fetches (IsClean B) gives now path names s C s D (Err (Denied d)))
  ends_enough A B s d w m e h = becomes _ _ h (λ C D k. subst (λ x. Fetches (IsClean B) gives now path names s C s x (Err (Denied d))) (sym k.0) (ends (enough (k.1 (missing_known (IsClean B) C path now d w m)) m e)))

  -- the name was fetched before
  pub ends_again : (A B : Standing) (s : Src) (d : orders.Denial) (w : Wanted) → Misses d w → has_name names w.name ≡ true → Changes A B (Denies (IsClean B) path now d)
      → Changes A B (λ C D. Fetches (IsClean B) gives now path names s C s D (Err (Denied d)))
  ends_again A B s d w m e h = becomes _ _ h (λ C D k. subst (λ x. Fetches (IsClean B) gives now path names s C s x (Err (Denied d))) (sym k.0) (ends (again (k.1 (missing_known (IsClean B) C path now d w m)) m e)))

  module _ (A B E : Standing) (s t : Src) (d : orders.Denial) (w : Wanted) (m : Misses d w) (fresh : has_name names w.name ≡ false) (few : length names < 194)
      (h : Changes A B (Denies (IsClean B) path now d)) where
    -- the source has no such file
    pub ends_absent : Changes B E (λ C D. Takes gives now w s C t D (Ok false)) → Changes A E (λ C D. Fetches (IsClean E) gives now path names s C t D (Err (Denied d)))
    ends_absent k = follows _ _ _ h k (λ C D F p q. ends (absent (p.1 (missing_known (IsClean B) C path now d w m)) m fresh few (subst (λ x. Takes gives now w s x t F (Ok false)) p.0 q)))

    -- the file was not taken
    pub ends_failed : (fault : Fault) → Changes B E (λ C D. Takes gives now w s C t D (Err fault)) → Changes A E (λ C D. Fetches (IsClean E) gives now path names s C t D (Err fault))
    ends_failed fault k = follows _ _ _ h k (λ C D F p q. ends (fails (p.1 (missing_known (IsClean B) C path now d w m)) m fresh few (subst (λ x. Takes gives now w s x t F (Err fault)) p.0 q)))

    -- the file was taken
    goes_on : Changes B E (λ C D. Takes gives now w s C t D (Ok true)) → GoesOn A E gives now path names (names ++ w.name ∷ []) s t
    goes_on k = record {
      grows = length-append names (w.name ∷ []) ∙ omega arith;
      few = omega (arith, few, length-append names (w.name ∷ []));
      changes = follows _ _ _ h k (λ C D F p q last u G r more. further (p.1 (missing_known (IsClean B) C path now d w m)) m fresh few (subst (λ x. Takes gives now w s x t F (Ok true)) p.0 q) more);
    }

    -- the same, by another spelling of the names
    pub goes_on_as : (more : Names) → more ≡ names ++ w.name ∷ [] → Changes B E (λ C D. Takes gives now w s C t D (Ok true)) → GoesOn A E gives now path names more s t
    goes_on_as more e k = subst (λ x. GoesOn A E gives now path names x s t) (sym e) (goes_on k)

    -- and there was no memory to note its name
    pub ends_unnoted : Changes B E (λ C D. Takes gives now w s C t D (Ok true)) → Changes A E (λ C D. Fetches (IsClean E) gives now path names s C t D (Err OutOfMemory))
    ends_unnoted k = follows _ _ _ h k (λ C D F p q. further (p.1 (missing_known (IsClean B) C path now d w m)) m fresh few (subst (λ x. Takes gives now w s x t F (Ok true)) p.0 q) (ends (unanswered tt)))

-- ---- names

pub has_as : (r b : Bool) (ns ms : Names) (t n : Bytes) → r ≡ has_name ns t → r ≡ b → ns ≡ ms → t ≡ n → has_name ms n ≡ b
has_as r b ns ms t n h e hs ht = subst (λ (x : Names). has_name x n ≡ b) hs (subst (λ (x : Bytes). has_name ns x ≡ b) ht (sym h ∙ e))

-- ---- the whole

granted_by : {Src : Type 0} (gives : Gives Src) (trusted : Type 0) (now : ℕ) (path : Bytes) (s t : Src) (C D : State) (r : Result (Vec ℕ Global) ClientFault)
    → Fetches trusted gives now path [] s C t D (fetched r) → trusted → IfOk r (λ b. grants D path None now (Ok b.items))
granted_by gives trusted now path s t C D (Ok b) h sure = fetch-granted trusted gives now sure path [] s t C D (Ok b.items) b.items h refl
granted_by gives trusted now path s t C D (Err fault) h sure = tt

pub fetched_all : {Src : Type 0} (gives : Gives Src) (now : ℕ) (path : Bytes) (A B : Standing) (s t : Src) (r : Result (Vec ℕ Global) ClientFault)
    → Changes A B (λ C D. Fetches (IsClean B) gives now path [] s C t D (fetched r))
    → Changes A B (λ C D. Fetches (IsClean B) gives now path [] s C t D (fetched r) × RunsOn IsTaking now C D × (IsClean B → IfOk r (λ b. grants D path None now (Ok b.items))))
fetched_all gives now path A B s t r h =
    becomes _ _ h (λ C D k. (k, fetch-runs (IsClean B) gives now path [] s t C D (fetched r) k, granted_by gives (IsClean B) now path s t C D r k))

-- no name was fetched yet
pub from_no_names : {Src : Type 0} (gives : Gives Src) (now : ℕ) (path : Bytes) (A B : Standing) (ns : Names) (s u : Src) (r : Result Bytes Fault) → ns ≡ []
    → Changes A B (λ C D. Fetches (IsClean B) gives now path ns s C u D r) → Changes A B (λ C D. Fetches (IsClean B) gives now path [] s C u D r)
from_no_names gives now path A B ns s u r e h = subst (λ x. Changes A B (λ C D. Fetches (IsClean B) gives now path x s C u D r)) e h
