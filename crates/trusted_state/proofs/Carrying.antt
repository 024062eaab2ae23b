-- What is known is carried beside changes that are judged.
use Rattle.std.proofs.Common.{◌≡◌, ◌≤◌, ℕ, arith, [], ◌∷◌, length, Option, Some, None, Result, Ok, Err, refl, sym, subst, IfSome}
use Rattle.std.proofs.lemmas.List.Elements.{recursion_from_All}
use Rattle.std.specs.Prelude.{IfOk}
use Rattle.std.specs.List.{AllByRecursion}
use Rattle.document_parts.specs.Documents.{Root, Snapshot}
use Rattle.metadata.specs.File.{File, Bytes}
use Rattle.denials.specs.Orders.{Order}
use Rattle.delegations.specs.Rows.{Rows, AllFiles}
use Rattle.delegations.specs.Search.{Shelf, shelf_of, visited}
use Rattle.delegations.specs.Verdicts.{AreFew, Table, AreTrue, AreOfRows, IsComplete, Costs}
use Rattle.trust_rules.specs.State.{State, Trusted, IsState, IsTrusted, IsShelfRow}
use Rattle.trust_rules.specs.Offers.{BatchOrder}
use Rattle.trust_rules.specs.Effects as changed
use Rattle.trust_rules.specs.Effects.{applied, brought}
use Rattle.trusted_state.specs.Knowing.{IsKnown, ChecksFew, WantsFew}
use Rattle.trusted_state.specs.Answers.{Answers, AnswersBatch, changes, unanswered, done, undone}
use Rattle.trusted_state.specs.steps.Carrying.{IsSameOutcome, IsSameBatch}
use Rattle.state_parts.specs.Views.{effects_view}
use Rattle.state_parts.specs.declared.effects.Effects.{Effects}
use Rattle.trusted_state.specs.declared.outcome.Outcome.{Outcome}
use Rattle.trusted_state.specs.declared.outcome.Outcome.TheVariants.{Changed}
use Rattle.trusted_state.specs.declared.outcome.Outcome.TheVariants as outcomes
use Rattle.trusted_state.specs.declared.outcome.Batched.{Batched}
use Rattle.trusted_state.specs.declared.refusal.Refusal.{Refusal}
use Rattle.trusted_state.specs.declared.refusal.Refusal.TheVariants as refusals
use Rattle.trusted_state.specs.declared.refusal.BatchRefusal.{BatchRefusal}
use Rattle.trusted_state.specs.declared.refusal.BatchRefusal.TheVariants as batches

-- the same outcome is the same answer
same_changes : {S : State} {m : Order State} {e f : Effects} → effects_view f ≡ effects_view e → Answers S m (Ok (Changed e)) → Answers S m (Ok (Changed f))
same_changes {S} {m} same (changes given valid) =
    changes (subst (λ E. m (Ok (applied S E))) (sym same) given) (subst (λ E. IsState (applied S E)) (sym same) valid)

pub same_answers : {S : State} {m : Order State} (o : Outcome) (r : Result Outcome Refusal) → Answers S m (Ok o) → IsSameOutcome o r → Answers S m r
same_answers (Changed e) (Ok (Changed f)) h same = same_changes same h
same_answers (Changed e) (Ok outcomes.Same) h same = absurd same
same_answers (Changed e) (Err refusals.OutOfMemory) h same = unanswered
same_answers (Changed e) (Err (refusals.Denied d)) h same = absurd same
same_answers outcomes.Same (Ok outcomes.Same) h same = h
same_answers outcomes.Same (Ok (Changed f)) h same = absurd same
same_answers outcomes.Same (Err refusals.OutOfMemory) h same = unanswered
same_answers outcomes.Same (Err (refusals.Denied d)) h same = absurd same

-- what is found out of a draft's shelf is what is known of the draft
pub known_over : (T : Trusted) (root : File Root) (snap : File Snapshot) (V : Shelf) (t : Table) → T.root ≡ Some root → T.snapshot ≡ Some snap → V ≡ shelf_of root snap T.shelf
    → AreTrue V.rows t → AreOfRows V.rows t → IsComplete V t → IsKnown T t
known_over T root snap V t rooted held is sound rows complete = record {
  sound = subst (λ (W : Shelf). AreTrue W.rows t) is sound;
  rows = subst (λ (W : Shelf). AreOfRows W.rows t) is rows;
  complete = subst (λ o. IfSome o (λ root. IfSome T.snapshot (λ snap. IsComplete (shelf_of root snap T.shelf) t))) (sym rooted)
      (subst (λ o. IfSome o (λ snap. IsComplete (shelf_of root snap T.shelf) t)) (sym held) (subst (λ (W : Shelf). IsComplete W t) is complete));
}

pub ok_all : {A E : Type 0} (P Q R S : A → Type 0) (r : Result A E) → ((x : A) → P x → Q x → R x → S x) → IfOk r P → IfOk r Q → IfOk r R → IfOk r S
ok_all P Q R S (Ok x) so p q r = so x p q r
ok_all P Q R S (Err e) so p q r = tt

pub ok_two : {A E : Type 0} (P Q R : A → Type 0) (r : Result A E) → ((x : A) → P x → Q x → R x) → IfOk r P → IfOk r Q → IfOk r R
ok_two P Q R (Ok x) so p q = so x p q
ok_two P Q R (Err e) so p q = tt

pub ok_one : {A E : Type 0} (P Q : A → Type 0) (r : Result A E) → ((x : A) → P x → Q x) → IfOk r P → IfOk r Q
ok_one P Q (Ok x) so p = so x p
ok_one P Q (Err e) so p = tt

-- no document of what is trusted has more than 16 signatures
few_in : (rows : Rows) → AllByRecursion IsShelfRow rows → AllFiles (λ f. length f.entries ≤ 16) rows
few_in [] all = tt
few_in (row ∷ rows) all = (all.0.document.read.file.envelope.signatures.1, few_in rows all.1)

pub few_entries : (T : Trusted) → IsTrusted T → AllFiles (λ f. length f.entries ≤ 16) T.shelf
few_entries T valid = few_in T.shelf (recursion_from_All IsShelfRow T.shelf valid.rows)

-- a request that makes no search checks nothing
pub no_checks : (root : Option (File Root)) (snap : Option (File Snapshot)) (shelf : Rows) (t : Table) (path : Bytes) (now count : ℕ) → count ≡ 0 → ChecksFew root snap shelf t path now count
no_checks (Some root) (Some snap) shelf t path now count none =
    record {
      edges = [];
      visited = record { passed = []; last = []; rest = visited (shelf_of root snap shelf) path; are = refl; one = omega arith; few = omega arith; first = refl; on = tt };
      most = omega (arith, none);
    }
no_checks (Some root) None shelf t path now count none = none
no_checks None (Some snap) shelf t path now count none = none
no_checks None None shelf t path now count none = none

pub found_checks : (T : Trusted) (root : File Root) (snap : File Snapshot) (V : Shelf) (t u : Table) (path : Bytes) (now count : ℕ) → T.root ≡ Some root → T.snapshot ≡ Some snap
    → V ≡ shelf_of root snap T.shelf → t ≡ u → Costs V t path now count → ChecksFew T.root T.snapshot T.shelf u path now count
found_checks T root snap V t u path now count rooted held is same costs =
    subst (λ o. ChecksFew o T.snapshot T.shelf u path now count) (sym rooted) (subst (λ o. ChecksFew (Some root) o T.shelf u path now count) (sym held)
    (subst (λ (W : Shelf). Costs W u path now count) is (subst (λ (k : Table). Costs V k path now count) same costs)))

-- where the wanted pairs are few, each is known
pub found_free : (T : Trusted) (root : File Root) (snap : File Snapshot) (V : Shelf) (t u : Table) (P : Type 0) → T.root ≡ Some root → T.snapshot ≡ Some snap
    → V ≡ shelf_of root snap T.shelf → t ≡ u → IsKnown T u → (AreFew V → IsComplete V t → P) → WantsFew T → P
found_free T root snap V t u P rooted held is same known none few =
    let W : Shelf = shelf_of root snap T.shelf in
    let complete : IsComplete W u =
    subst (λ o. IfSome o (λ (s : File Snapshot). IsComplete (shelf_of root s T.shelf) u)) held
    (subst (λ o. IfSome o (λ (r : File Root). IfSome T.snapshot (λ s. IsComplete (shelf_of r s T.shelf) u))) rooted known.complete) in
    let those : AreFew W =
    subst (λ o. IfSome o (λ (s : File Snapshot). AreFew (shelf_of root s T.shelf))) held
    (subst (λ o. IfSome o (λ (r : File Root). IfSome T.snapshot (λ s. AreFew (shelf_of r s T.shelf)))) rooted few) in
    none (subst (λ (X : Shelf). AreFew X) (sym is) those) (subst (λ (X : Shelf). IsComplete X t) (sym is) (subst (λ (k : Table). IsComplete W k) (sym same) complete))

-- the same batch is the same answer
pub same_batch : {S : State} {m : BatchOrder} (b : Batched) (r : Result Batched BatchRefusal) → AnswersBatch S m (Ok b) → IsSameBatch b r → AnswersBatch S m r
same_batch {S} {m} b (Ok c) (done given alone valid) same =
    done (subst (λ (n : ℕ). m (Ok (record { trusted = brought S.trusted (effects_view c.effects); accepted = c.accepted; same = n }))) (sym same.2)
    (subst (λ (n : ℕ). m (Ok (record { trusted = brought S.trusted (effects_view c.effects); accepted = n; same = b.same }))) (sym same.1)
    (subst (λ (E : changed.Effects). m (Ok (record { trusted = brought S.trusted E; accepted = b.accepted; same = b.same }))) (sym same.0) given)))
    (subst (λ (E : changed.Effects). applied S E ≡ record S { trusted = brought S.trusted E }) (sym same.0) alone)
    (subst (λ (E : changed.Effects). IsState (applied S E)) (sym same.0) valid)
same_batch b (Err batches.OutOfMemory) h same = undone
same_batch b (Err (batches.Denied d i)) h same = absurd same
