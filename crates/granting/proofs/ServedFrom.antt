-- What a request for a target serves from bytes that are elsewhere.
use Rattle.std.proofs.Common.{◌≡◌, ℕ, List, [], ◌∷◌, Bool, true, false, Option, Some, None, Result, Ok, Err, refl, sym, ap, ◌∙◌, subst}
use Rattle.std.proofs.lemmas.Bool.{true≢false}
use Rattle.std.proofs.lemmas.List.Elements.{recursion_from_All}
use Rattle.std.proofs.lemmas.Slice.Eq.{bytes_eq-Decides}
use Rattle.std.specs.Prelude.{◌↔◌, bytes_eq, unwrap_or, IfOk, IsSome}
use Rattle.std.specs.List.{AllByRecursion}
use Rattle.sha2.specs.Sha256.{sha256}
use Rattle.metadata.specs.File.{Bytes}
use Rattle.denials.specs.Orders.{Order}
use Rattle.delegations.specs.Rows.{value_at}
use Rattle.trust_rules.specs.Held.{Held, StandsFor, held_of, length_at, bytes_at}
use Rattle.granting.specs.Serving.{ListsDigest, Serves, serves, fails}
use Rattle.trust_rules.specs.State.{State, Trusted, IsBlob, IsState, blob_at}
use Rattle.granting.specs.steps.Permitting.{IsLoaded}
use Rattle.granting.specs.declared.serving.Served.{Served}
use Rattle.granting.specs.declared.serving.LoadFault.TheVariants.{Missing, Database}
use Rattle.granting.specs.declared.serving.LoadFault.TheVariants as loads
use Rattle.granting.specs.declared.serving.GetFault.{GetFault}
use Rattle.granting.specs.declared.serving.GetFault.TheVariants.{Denied, Load, OutOfMemory}
use Rattle.trust_rules.proofs.HeldStates.{is_there}

-- what is there under a digest
some_there : (o : Option Bytes) → IsSome o → o ≡ Some (unwrap_or o [])
some_there (Some b) h = refl
some_there None h = absurd (true≢false (sym h))

pub bytes_there : {H : Held} (S : State) (digest : Bytes) → held_of S ≡ H → IsSome (length_at H.blobs digest) → blob_at S.blobs digest ≡ Some (bytes_at S digest)
bytes_there S digest is h = some_there (blob_at S.blobs digest) ((is_there S digest (ap (λ (H : Held). H.blobs) is)).0 h)

-- what is so of each blob is so of that under a digest
pub found_so : (P : Bytes → Bytes → Type 0) (rows : List (Bytes × Bytes)) (digest b : Bytes) → AllByRecursion (λ row. P row.0 row.1) rows
    → value_at bytes_eq rows digest ≡ Some b → P digest b
found_so P [] digest b all e = absurd cc
found_so P (row ∷ rows) digest b all e = at (bytes_eq row.0 digest) refl (found_so P rows digest b all.1)
  where
    at : (t : Bool) → bytes_eq row.0 digest ≡ t → (value_at bytes_eq rows digest ≡ Some b → P digest b) → P digest b
    at true is later =
        subst (λ (d : Bytes). P d b) ((bytes_eq-Decides row.0 digest).0 is)
        (subst (λ (x : Bytes). P row.0 x) (ap (λ (o : Option Bytes). unwrap_or o b) (rw is at e)) all.0)
    at false is later = later (rw is at e)

-- the bytes that stand under a digest are the state's, and are not missing
pub same_bytes : {Holds : Bytes → Bytes → Type 0} {H : Held} (digest : Bytes) (S : State) → IsSome (length_at H.blobs digest) → StandsFor H Holds S
    → (x : Bytes) → Holds digest x ↔ x ≡ bytes_at S digest
same_bytes {Holds} digest S there stands =
    found_so (λ d b. (x : Bytes) → (Holds d x) ↔ (x ≡ b)) S.blobs digest (bytes_at S digest)
    (recursion_from_All (λ b. (x : Bytes) → (Holds b.0 x) ↔ (x ≡ b.1)) S.blobs stands.blobs) (bytes_there S digest stands.held there)

pub none_missing : {Holds : Bytes → Bytes → Type 0} {H : Held} (digest : Bytes) (S : State) → IsSome (length_at H.blobs digest) → StandsFor H Holds S
    → ((bytes : Bytes) → Holds digest bytes → ⊥) → ⊥
none_missing {Holds} digest S there stands missing = missing (bytes_at S digest) ((same_bytes {Holds = Holds} digest S there stands (bytes_at S digest)).1 refl)

pub loaded_bytes : {honest : Type 0} {Holds : Bytes → Bytes → Type 0} {H : Held} (digest : Bytes) (s : Served) (S : State)
    → IsLoaded honest Holds digest (Ok s) → IsSome (length_at H.blobs digest) → honest → StandsFor H Holds S → s.bytes.items ≡ bytes_at S digest
loaded_bytes {Holds = Holds} digest s S loaded there true_so stands = (same_bytes {Holds = Holds} digest S there stands s.bytes.items).0 (loaded.2 true_so)

pub served_so : {honest : Type 0} {Holds : Bytes → Bytes → Type 0} {H : Held} {m : Order Bytes} (digest : Bytes) (r : Result Served GetFault) (S : State)
    → IsLoaded honest Holds digest r → IsSome (length_at H.blobs digest) → honest → StandsFor H Holds S → m (Ok (bytes_at S digest)) → Serves S m r
served_so {honest} {Holds} {H} {m} digest r S loaded there true_so stands given = by_result r loaded
  where
    by_result : (r : Result Served GetFault) → IsLoaded honest Holds digest r → Serves S m r
    by_result (Ok s) l =
        let are : s.bytes.items ≡ bytes_at S digest = loaded_bytes {honest = honest} {Holds = Holds} digest s S l there true_so stands in
        serves (subst (λ (b : Bytes). m (Ok b)) (sym are) given)
        (ap (λ (d : Bytes). blob_at S.blobs d) l.0 ∙ bytes_there S digest stands.held there ∙ ap Some (sym are))
    by_result (Err (Load Missing)) l = absurd (none_missing {Holds = Holds} digest S there stands (l true_so))
    by_result (Err (Load Database)) l = fails (λ e. absurd cc)
    by_result (Err (Load loads.OutOfMemory)) l = fails (λ e. absurd cc)
    by_result (Err (Denied d)) l = absurd l
    by_result (Err OutOfMemory) l = absurd l

-- what was loaded has its digest, whatever it was loaded from
pub loaded_digest : (honest : Type 0) (Holds : Bytes → Bytes → Type 0) (digest : Bytes) (r : Result Served GetFault) → IsLoaded honest Holds digest r → IfOk r (λ s. sha256 s.bytes.items ≡ s.digest.0)
loaded_digest honest Holds digest (Ok s) l = l.1
loaded_digest honest Holds digest (Err fault) l = tt

-- and so has what a state has under it
pub own_digest : (S : State) (digest b : Bytes) → IsState S → blob_at S.blobs digest ≡ Some b → sha256 b ≡ digest
own_digest S digest b valid e =
    found_so (λ d x. sha256 x ≡ d) S.blobs digest b (each S.blobs (recursion_from_All IsBlob S.blobs valid.blobs)) e
  where
    each : (rows : List (Bytes × Bytes)) → AllByRecursion IsBlob rows → AllByRecursion (λ row. sha256 row.1 ≡ row.0) rows
    each [] all = tt
    each (row ∷ rows) all = (all.0.digest, each rows all.1)

-- what is loaded of a digest that is listed
pub load_lists : {T : Trusted} {path : Bytes} {asked : Option Bytes} {now : ℕ} (honest : Type 0) (Holds : Bytes → Bytes → Type 0) (digest : Bytes) (r : Result Served GetFault)
    → ListsDigest T path asked now digest → IsLoaded honest Holds digest r → IfOk r (λ s. ListsDigest T path asked now s.digest.0)
load_lists {T} {path} {asked} {now} honest Holds digest (Ok s) lists h = subst (ListsDigest T path asked now) (sym h.0) lists
load_lists honest Holds digest (Err fault) lists h = tt
