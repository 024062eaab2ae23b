-- When a layout and its links allow a target (in-toto 1.0, section 5.2; this project's profile).
use Rattle.std.specs.Prelude.{◌≡◌, ℕ, ◌<◌, ◌≤◌, List, [], ◌∷◌, length, Some, Ok, Err, Contains}
use Rattle.std.specs.List.{AllByRecursion, AllZip, zip}
use Rattle.keys_roles.specs.Plain.{Table, RoleRule}
use Rattle.keys_roles.specs.Rules.{AreDistinct, Counts, Meets}
use Rattle.document_parts.specs.Documents.{Layout, Step}
use Rattle.metadata.specs.File.{Bytes, File, Name}
use Rattle.document_parts.specs.Links.{HasDigest, Link}
use Rattle.document_parts.specs.Rules.{ArtifactRule, Side, materials, products}
use Rattle.artifact_rules.specs.Rules.{RulesForbid, RulesHold, RulesRequire, link_of}
use Rattle.denials.specs.Numbers as no
use Rattle.denials.specs.Orders.{Judged, Order, Denied, Plain, ◌>>◌, give, check}

-- each of a list in turn
abbrev pub all : {A : Type 0} → (A → Order (Unit {0})) → List A → Order (Unit {0})
all f [] = give tt
all f (x ∷ xs) = f x >> all f xs

-- the same artifacts before and after
abbrev pub SameArtifacts : Link → Link → Type 0
SameArtifacts a b = (a.materials ≡ b.materials) × (a.products ≡ b.products)

module _ (keys : Table) where
  -- the link is one of the step, and this public key, of one of the step's functionaries, has signed it
  pub record IsGoodBy (step : Step) (link : File Link) (top : List ℕ) : Type 0 where
    pub named : link.body.name ≡ step.name
    pub counts : Counts step.rule keys link.signed link.entries top

  abbrev pub IsGood : Step → File Link → Type 0
  IsGood step link = (top : List ℕ) × IsGoodBy step link top

  module _ (links : List (File Link)) where
    -- the public key has signed one of the links for the step
    abbrev pub HasLink : Step → List ℕ → Type 0
    HasLink step top = (link : File Link) × Contains links link × IsGoodBy step link top

    -- as many distinct public keys as the step's threshold, and at least one, have a good link
    pub record EnoughKeys (step : Step) : Type 0 where
      pub tops : List (List ℕ)
      pub distinct : AreDistinct tops
      pub some : 0 < length tops
      pub enough : step.rule.threshold ≤ length tops
      pub each : AllByRecursion (HasLink step) tops

    -- no two good links differ
    abbrev pub AllAgree : Step → Type 0
    AllAgree step = (a b : File Link) → Contains links a → Contains links b → IsGood step a → IsGood step b → SameArtifacts a.body b.body

    -- what one of the step's good links says
    abbrev pub IsLinkOf : Step → Link → Type 0
    IsLinkOf step l = (link : File Link) × Contains links link × IsGood step link × (link.body ≡ l)

-- a list of rules on one side of a link, by the kind of the rule that fails first
pub data Ruled (chosen : List Link) (side : Side) (link : Link) (rules : List ArtifactRule) : Judged (Unit {0}) → Type 0 where
  hold : RulesHold side link chosen rules → Ruled chosen side link rules (Ok tt)
  forbid : (j : ℕ) (path : List ℕ) → RulesForbid side link chosen rules j path → Ruled chosen side link rules (Err (Denied (Plain no.disallowed)))
  ask : (j : ℕ) (path : List ℕ) → RulesRequire side link chosen rules j path → Ruled chosen side link rules (Err (Denied (Plain no.required)))

module _ (chosen : List Link) where
  abbrev pub ruled : Side → Link → List ArtifactRule → Order (Unit {0})
  ruled side link rules = Ruled chosen side link rules

  -- the rules of a step, of its materials first
  abbrev pub step_rules : Step × Link → Order (Unit {0})
  step_rules e = ruled materials e.1 e.0.materials >> ruled products e.1 e.0.products

  -- the link of the step of this name lists the product with this digest
  abbrev pub HasProduct : Name → Bytes → Bytes → Type 0
  HasProduct step product digest = (l : Link) × (link_of chosen step ≡ Some l) × HasDigest l.products product digest

  abbrev pub rules_and_product : List Step → Name → Bytes → Bytes → Order (Unit {0})
  rules_and_product steps step product digest = do
    all step_rules (zip steps chosen)
    check no.product_mismatch (HasProduct step product digest)

-- The order of the checks of a layout. The link of a step is any of its good links: by then they agree.
pub record Chosen (layout : Layout) (links : List (File Link)) (step : Name) (product digest : Bytes) (r : Judged (Unit {0})) : Type 0 where
  pub chosen : List Link
  pub each : AllZip (IsLinkOf layout.keys links) layout.steps chosen
  pub judged : rules_and_product chosen layout.steps step product digest r

abbrev pub by_links : Layout → List (File Link) → Name → Bytes → Bytes → Order (Unit {0})
by_links layout links step product digest = Chosen layout links step product digest

abbrev pub layout_holds : File Layout → RoleRule → Table → List (File Link) → Name → Bytes → Bytes → ℕ → Order (Unit {0})
layout_holds layout owners table links step product digest now = do
  check no.layout_threshold (Meets owners table layout.signed layout.entries)
  check no.layout_expired (now < layout.body.expires)
  all (λ s. check no.step_threshold (EnoughKeys layout.body.keys links s)) layout.body.steps
  all (λ s. check no.links_disagree (AllAgree layout.body.keys links s)) layout.body.steps
  by_links layout.body links step product digest
