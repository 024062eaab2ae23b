-- What was asked and done for one file after the other.
use Rattle.std.proofs.Common.{◌≡◌, ◌⊎◌, inl, inr, List, [], ◌∷◌, ◌++◌, sym, subst, append_assoc}
use Rattle.std.specs.Prelude.{Option, Some}
use Rattle.metadata.specs.File.{Bytes}
use Rattle.served_files.specs.Served.{Files, ServedFile}
use Rattle.exported_files.specs.Events.{Event, answered, left_out, put, stood}
use Rattle.exported_files.specs.Exports.{Did, Exported, IsOfFile, IsOfMetadata, IsOfTarget, IsPlaceOf, metadata_place, metadata_put, metadata_stood, next, target_left_out, target_put}

-- one thing was done
pub did_one : {M : Type 0} (H : Files → List Event → M → Type 0) (a b : M) (event : Event) (Is : List Event → Type 0)
    → ((files : Files) (events : List Event) → H files events a → H files (events ++ event ∷ []) b) → Is (event ∷ []) → Did H a b Is
did_one H a b event Is step is = record { so = λ files events at. (event ∷ [], step files events at, is) }

-- nothing was done, and then something
pub did_after : {M : Type 0} (H : Files → List Event → M → Type 0) (a b c : M) (Is : List Event → Type 0)
    → ((files : Files) (events : List Event) → H files events a → H files events b) → Did H b c Is → Did H a c Is
did_after H a b c Is same did = record { so = λ files events at. did.so files events (same files events at) }

-- a target was asked for and put into its place, or left out
pub did_target : {M : Type 0} (H : Files → List Event → M → Type 0) (a b c : M) (folder path digest place bytes : Bytes) → IsPlaceOf folder path digest place
    → ((files : Files) (events : List Event) → H files events a → H files (events ++ answered path digest (Some bytes) ∷ []) b)
    → ((files : Files) (events : List Event) → H files events b → H files (events ++ put place bytes ∷ []) c ⊎ H files (events ++ left_out place ∷ []) c)
    → Did H a c (λ more. IsOfTarget folder path digest more)
did_target H a b c folder path digest place bytes is asked done = record {
  so = λ files events at.
      let reply : Event = answered path digest (Some bytes) in
      elim (done files (events ++ reply ∷ []) (asked files events at)) [
        | inl there ↦ (reply ∷ put place bytes ∷ [], subst (λ (l : List Event). H files l c) (append_assoc events (reply ∷ []) (put place bytes ∷ [])) there, target_put place bytes is)
        | inr out ↦ (reply ∷ left_out place ∷ [], subst (λ (l : List Event). H files l c) (append_assoc events (reply ∷ []) (left_out place ∷ [])) out, target_left_out place bytes is)
      ];
}

-- one file more was exported
pub exported_next : {M : Type 0} (H : Files → List Event → M → Type 0) (folder : Bytes) (files : Files) (told : List ServedFile) (file : ServedFile) (a b : M)
    → Did H a b (λ more. IsOfFile folder file more) → Exported H folder files told a → Exported H folder files (told ++ file ∷ []) b
exported_next H folder files told file a b did before =
    let one = did.so files before.events before.holds in
    record { events = before.events ++ one.0; holds = one.1; exports = next told before.events file one.0 before.exports one.2 }

-- a metadata file stood in its place, or was put there
pub did_stand : {M : Type 0} (H : Files → List Event → M → Type 0) (a b : M) (folder name bytes place : Bytes) → place ≡ metadata_place folder name
    → ((files : Files) (events : List Event) → H files events a → H files (events ++ stood place bytes ∷ []) b) → Did H a b (λ more. IsOfMetadata folder name bytes more)
did_stand H a b folder name bytes place is step = did_one H a b (stood place bytes) (λ more. IsOfMetadata folder name bytes more) step
    (subst (λ (p : Bytes). IsOfMetadata folder name bytes (stood p bytes ∷ [])) (sym is) metadata_stood)

pub did_put : {M : Type 0} (H : Files → List Event → M → Type 0) (a b c : M) (folder name bytes place : Bytes) → place ≡ metadata_place folder name
    → ((files : Files) (events : List Event) → H files events a → H files events b)
    → ((files : Files) (events : List Event) → H files events b → H files (events ++ put place bytes ∷ []) c) → Did H a c (λ more. IsOfMetadata folder name bytes more)
did_put H a b c folder name bytes place is same step = did_after H a b c (λ more. IsOfMetadata folder name bytes more) same
    (did_one H b c (put place bytes) (λ more. IsOfMetadata folder name bytes more) step
    (subst (λ (p : Bytes). IsOfMetadata folder name bytes (put p bytes ∷ [])) (sym is) metadata_put))

-- a target was answered something
pub answers_as : {M : Type 0} (H : Files → List Event → M → Type 0) (a b : M) (path digest : Bytes) (o r : Option Bytes) → o ≡ r
    → ((files : Files) (events : List Event) → H files events a → H files (events ++ answered path digest o ∷ []) b)
    → (files : Files) (events : List Event) → H files events a → H files (events ++ answered path digest r ∷ []) b
answers_as H a b path digest o r same step files events at = subst (λ (x : Option Bytes). H files (events ++ answered path digest x ∷ []) b) same (step files events at)

pub place_as : (folder path digest place text : Bytes) → text ≡ place → IsPlaceOf folder path digest place → IsPlaceOf folder path digest text
place_as folder path digest place text same is = subst (λ (p : Bytes). IsPlaceOf folder path digest p) (sym same) is

-- the same in a folder of the same name
pub did_in : {M : Type 0} (H : Files → List Event → M → Type 0) (a b : M) (one other : Bytes) (file : ServedFile) → one ≡ other
    → Did H a b (λ more. IsOfFile one file more) → Did H a b (λ more. IsOfFile other file more)
did_in H a b one other file same did = subst (λ (f : Bytes). Did H a b (λ more. IsOfFile f file more)) same did
