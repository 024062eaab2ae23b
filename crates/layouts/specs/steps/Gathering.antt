-- The good links of a step, each with the public key that has signed it.
use Rattle.std.specs.Prelude.{◌≡◌, ℕ, ◌⊎◌, Bool, cond, List, [], ◌∷◌, map, Option, Some, None, true, false, Ok, Err, bytes_eq}
use Rattle.std.specs.List.{AllByRecursion, list_any}
use Rattle.denials.specs.Numbers as no
use Rattle.denials.specs.Orders.{Denied, Order, Plain}
use Rattle.keys_roles.specs.Keys.{top_key}
use Rattle.keys_roles.specs.Plain.{Key, Signature, Table, look_up}
use Rattle.keys_roles.specs.Rules.{IsSigned}
use Rattle.document_parts.specs.Documents.{Step}
use Rattle.metadata.specs.File.{File}
use Rattle.document_parts.specs.Links.{Link}
use Rattle.document_parts.specs.RuleViews.{link_view}
use Rattle.layouts.specs.Layouts.{EnoughKeys, IsGoodBy, IsLinkOf, SameArtifacts}
use Rattle.layouts.specs.declared.step_links.Good.{Good}

-- a link with a public key
abbrev pub Signed : Type 0
Signed = Link × List ℕ

abbrev pub good_view : Good → Signed
good_view g = (link_view g.link.now, g.top)

abbrev pub goods_view : List Good → List Signed
goods_view goods = map good_view goods

abbrev pub first_of : List Signed → Option Link
first_of [] = None
first_of (g ∷ goods) = Some g.0

abbrev pub tops_of : List Signed → List (List ℕ)
tops_of goods = map (λ g. g.1) goods

-- each once
abbrev pub distinct_of : List (List ℕ) → List (List ℕ)
distinct_of [] = []
distinct_of (x ∷ xs) = cond (list_any (λ y. bytes_eq y x) xs) (distinct_of xs) (x ∷ distinct_of xs)

-- the key of this id in the table has signed, and is counted by this public key
pub record IsSigner (keys : Table) (signed : List ℕ) (entries : List Signature) (id top : List ℕ) : Type 0 where
  pub key : Key
  pub of_table : look_up keys id ≡ Some key
  pub is_top : top_key key ≡ top
  pub is_signed : IsSigned key id signed entries

-- the file is signed so by the key of this id
abbrev pub SignsAs : Table → File Link → List ℕ → Signed → Type 0
SignsAs keys file id g = (g.0 ≡ file.body) × IsSigner keys file.signed file.entries id g.1

-- the file makes its link good for the step by the public key
abbrev pub MakesGood : Table → Step → File Link → Signed → Type 0
MakesGood keys step file g = (g.0 ≡ file.body) × IsGoodBy keys step file g.1

-- some x of the list is so related to e
abbrev pub Some_of : {X E : Type 0} → (X → E → Type 0) → List X → E → Type 0
Some_of P [] e = ⊥
Some_of P (x ∷ xs) e = P x e ⊎ Some_of P xs e

-- a step that has enough links, with what one of them says
abbrev pub IsEnough : Table → List (File Link) → Step → Link → Type 0
IsEnough keys links step l = EnoughKeys keys links step × IsLinkOf keys links step l

-- the order lets the layout pass, or denies it since links disagree
abbrev pub IsAgreed : Order (Unit {0}) → Bool → Type 0
IsAgreed order true = order (Ok tt)
IsAgreed order false = order (Err (Denied (Plain no.links_disagree)))

-- the others have the artifacts of the first
abbrev pub FirstAgrees : List Signed → Type 0
FirstAgrees [] = Unit {0}
FirstAgrees (g ∷ goods) = AllByRecursion (λ h. SameArtifacts g.0 h.0) goods
