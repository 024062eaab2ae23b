-- A place on the shelf for a new document: free, or taken by itself or by another.
use Rattle.std.proofs.Common.{◌≡◌, ℕ, ◌<◌, length, Option, Some, None, Ok, Err, Result, Bool, cond, refl, ap, subst}
use Rattle.std.specs.Prelude.{IsNone, unwrap_or, option_map}
use Rattle.document_parts.specs.Documents.{Root, Timestamp, Snapshot, Targets, MetaFile}
use Rattle.metadata.specs.File.{Bytes, Name, File}
use Rattle.denials.specs.Numbers as no
use Rattle.denials.specs.Orders.{Order, Denied, Plain, Same, ◌>>=◌, pass, decide, holds, fails, differs, same, given}
use Rattle.delegations.specs.Rows.{row_at, with_row, place_before}
use Rattle.trusted_state.specs.Answers.{Gives}
use Rattle.trusted_state.specs.steps.Judging.{Judges, accepts, keeps, rejects, stops}
use Rattle.trust_rules.specs.Offers.{placed, named_targets, live_snapshot}
use Rattle.trust_rules.specs.State.{Trusted}
use Rattle.limits.specs.Limits.{most_held}
use Rattle.trusted_state.specs.declared.refusal.Refusal.{Refusal}

abbrev Holds : Option (File Targets) → Bytes → Type 0
Holds o b = option_map (λ old. old.bytes) o ≡ Some b

some_one : (a b : Bytes) → ◌≡◌ {A = Option Bytes} (Some a) (Some b) → a ≡ b
some_one a b p = ap (λ o. unwrap_or o a) p

not_none : {A : Type 0} (a : A) → IsNone (Some a) → ⊥
not_none a h = subst (λ (b : Bool). cond b (Unit {0}) ⊥) h tt

none_there : (b : Bytes) → ¬ Holds None b
none_there b p = not_none b (subst (λ (o : Option Bytes). IsNone o) p refl)

pub stands_there : (T : Trusted) (role : Name) (version : ℕ) (new old : File Targets) → Some old ≡ row_at T.shelf role version → old.bytes ≡ new.bytes
    → placed T role version new (Err Same)
stands_there T role version new old e b = decide (same (subst (λ o. Holds o new.bytes) e (ap (λ x. Some x) b)))

pub taken_already : (T : Trusted) (role : Name) (version : ℕ) (new old : File Targets) → Some old ≡ row_at T.shelf role version → ¬ (old.bytes ≡ new.bytes)
    → placed T role version new (Err (Denied (Plain no.version_taken)))
taken_already T role version new old e n =
    pass (differs (subst (λ o. ¬ Holds o new.bytes) e (λ p. n (some_one old.bytes new.bytes p))))
    (decide (fails (subst (λ (o : Option (File Targets)). ¬ IsNone o) e (not_none old))))

pub no_place : (T : Trusted) (role : Name) (version : ℕ) (new : File Targets) → None ≡ row_at T.shelf role version → ¬ (length T.shelf < most_held)
    → placed T role version new (Err (Denied (Plain no.full)))
no_place T role version new e n =
    pass (differs (subst (λ o. ¬ Holds o new.bytes) e (none_there new.bytes)))
    (pass (holds (subst (λ (o : Option (File Targets)). IsNone o) e refl)) (decide (fails n)))

pub a_place : (T : Trusted) (role : Name) (version : ℕ) (new : File Targets) → None ≡ row_at T.shelf role version → length T.shelf < most_held
    → placed T role version new (Ok (record T { shelf = with_row place_before T.shelf (role, version) new }))
a_place T role version new e lt =
    pass (differs (subst (λ o. ¬ Holds o new.bytes) e (none_there new.bytes)))
    (pass (holds (subst (λ (o : Option (File Targets)). IsNone o) e refl)) (pass (holds lt) given))

-- what a named document's version is
pub named_version : (entry : MetaFile) (new : File Targets) → named_targets entry new (Ok tt) → new.body.version ≡ entry.version
named_version entry new (pass a (pass b (holds h))) = h

pub live_as : {A : Type 0} {t u : Option (File Timestamp)} {s v : Option (File Snapshot)} (root : File Root) {now : ℕ} {view : A → File Snapshot} {r : Result A Refusal}
    → t ≡ u → s ≡ v → Gives (live_snapshot t s root now) view r → Gives (live_snapshot u v root now) view r
live_as {A} {t} {u} {s} {v} root {now} {view} {r} e f g =
    subst (λ (o : Option (File Snapshot)). Gives (live_snapshot u o root now) view r) f (subst (λ (o : Option (File Timestamp)). Gives (live_snapshot o s root now) view r) e g)

pub judged_behind : {A B : Type 0} {m : Order A} {f : A → Order B} {after : B} (a : A) {r : Result Bool Refusal} → m (Ok a) → Judges (f a) after r → Judges (m >>= f) after r
judged_behind a p (accepts g) = accepts (pass p g)
judged_behind a p (keeps g) = keeps (pass p g)
judged_behind a p (rejects g) = rejects (pass p g)
judged_behind a p stops = stops
