-- The links that an object is have the steps that its members are named by, whatever else is read of them.
use Rattle.std.proofs.Common.{◌≡◌, ◌∙◌, ℕ, List, [], ◌∷◌, Option, Some, None, map, option_map, slice_get, refl, sym, ap}
use Rattle.std.proofs.lemmas.Option.{slice_get-map}
use Rattle.canonical_json.specs.Json.{Json, Members, no_members, member, names}
use Rattle.document_parts.specs.Links.{Link}
use Rattle.document_parts.specs.Members.{IsObject, MembersAre}
use Rattle.document_parts.proofs.Growing.{same_members}
use Rattle.artifact_rules.proofs.Places.{some_once}
use Rattle.verdicts.specs.RuleCase.{IsLinkOf}

abbrev step_of : Link → List ℕ
step_of l = l.name

steps_are : (ms : Members) (ls : List Link) → MembersAre IsLinkOf ms ls → names ms ≡ map step_of ls
steps_are no_members [] h = refl
steps_are no_members (l ∷ ls) h = absurd h
steps_are (member n v ms) [] h = absurd h
steps_are (member n v ms) (l ∷ ls) h = ap (λ k. k ∷ names ms) h.0.name ∙ ap (λ ks. l.name ∷ ks) (steps_are ms ls h.1)

named : (o : Option Link) (n : List ℕ) → option_map step_of o ≡ Some n → (l : Link) × (o ≡ Some l) × (n ≡ l.name)
named None n h = absurd (cc)
named (Some l) n h = (l, refl, sym (some_once l.name n h))

pub same_place : (v : Json) (as' bs : List Link) (i : ℕ) (a : Link) → IsObject IsLinkOf v as' → IsObject IsLinkOf v bs → slice_get as' i ≡ Some a
    → (b : Link) × (slice_get bs i ≡ Some b) × (a.name ≡ b.name)
same_place v as' bs i a (ms, is, h) (ns, at, k) found =
    let steps : map step_of bs ≡ map step_of as' = sym (steps_are ns bs k) ∙ (ap names (same_members v ns ms at is) ∙ steps_are ms as' h) in
    named (slice_get bs i) a.name
    (sym (slice_get-map step_of bs i) ∙ (ap (λ ks. slice_get ks i) steps ∙ (slice_get-map step_of as' i ∙ ap (option_map step_of) found)))
